-- What a matcher answers, as a value.
use Rattle.std.proofs.Common.{◌≡◌, ℕ, ◌↔◌, Bool, true, false, List, [], ◌∷◌, IfSome, Option, refl, ap, sym, ◌∙◌, subst}
use mathlib.Core.Logic.{∥∥₁_elim, ∥∥₁_map}
use Rattle.std.specs.List.{list_any, AllByRecursion}
use Rattle.std.proofs.lemmas.Bool.{or_parts, true≢false}
use Rattle.std.proofs.Math.Bool.{Bool-set}
use Rattle.ut_regex.specs.Answers.{answered, answers, is_had}
use Rattle.ut_regex.specs.Finds.{Finds, Stays}
use Rattle.ut_regex.specs.Having.{Lack}
use Rattle.ut_regex.specs.Spans.{Has}
use Rattle.ut_regex.specs.Tree.{Tree}
use Rattle.ut_regex.specs.declared.machine.Machine.{Machine}
use Rattle.ut_regex.specs.declared.finder.Matcher.{Matcher}
use Rattle.ut_regex.specs.declared.search.Search.{Search}
use Rattle.ut_regex.specs.declared.table.Table.{Table}
use Rattle.ut_regex.specs.Inner.Finders.{IsFinder}
use Rattle.ut_regex.specs.Inner.Made.{IsMade}
use Rattle.ut_regex.specs.Inner.Program.{core, steps}
use Rattle.ut_regex.specs.Inner.Seeks.{Same, Seeks}
use Rattle.ut_regex.specs.Inner.Tables.{first_state}
use Rattle.ut_regex.proofs.RunLemmas.{had-has}

-- two answers to one question
pub same_answer : (one other : Bool) (P : Type 0) → (one ≡ true) ↔ P → (other ≡ true) ↔ P → one ≡ other
same_answer true true P first second = refl
same_answer true false P first second = sym (second.1 (first.0 refl))
same_answer false true P first second = first.1 (second.0 refl)
same_answer false false P first second = refl

pub no_answer : (answer : Bool) (P : Type 0) → (answer ≡ true) ↔ P → ¬ P → answer ≡ false
no_answer true P is not = absurd (not (is.0 refl))
no_answer false P is not = refl

pub answers-had : (matcher : Matcher) (fold whole : Bool) (re : Tree) (line : List ℕ) → Seeks matcher.machine fold whole re
    → answers matcher line ≡ is_had fold whole re line
answers-had matcher fold whole re line seeks =
    ap (λ ops. answered ops matcher.machine.fold matcher.machine.whole first_state line) seeks.program
    ∙ ap (λ folds. answered (steps (core re)) folds matcher.machine.whole first_state line) seeks.folds
    ∙ ap (λ wholes. answered (steps (core re)) fold wholes first_state line) seeks.is_whole

pub answers-has : (matcher : Matcher) (fold whole : Bool) (re : Tree) (line : List ℕ) → Seeks matcher.machine fold whole re
    → (answers matcher line ≡ true) ↔ Has fold whole line re
answers-has matcher fold whole re line seeks =
    let same = answers-had matcher fold whole re line seeks in
    let had = had-has fold whole re line in
    (λ h. had.0 (sym same ∙ h), λ h. same ∙ had.1 h)

pub answers-stays : (old new : Matcher) → Stays old new → (line : List ℕ) → answers new line ≡ answers old line
answers-stays old new stays line =
    let same = stays.machine in
    ap (λ ops. answered ops new.machine.fold new.machine.whole first_state line) same.steps
    ∙ ap (λ folds. answered old.machine.steps.items folds new.machine.whole first_state line) same.fold
    ∙ ap (λ wholes. answered old.machine.steps.items old.machine.fold wholes first_state line) same.whole

-- a test that holds of none of some lines
pub none-any : (test : List ℕ → Bool) (texts : List (List ℕ)) → AllByRecursion (λ line. ¬ (test line ≡ true)) texts → list_any test texts ≡ false
none-any test [] none = refl
none-any test (line ∷ texts) none = rw (no_answer (test line) (test line ≡ true) (λ h. h, λ h. h) none.0) (none-any test texts none.1)

pub any-none : (test : List ℕ → Bool) (texts : List (List ℕ)) → list_any test texts ≡ false → AllByRecursion (λ line. ¬ (test line ≡ true)) texts
any-none test [] none = tt
any-none test (line ∷ texts) none =
    let parts = or_parts (test line) (list_any test texts) none in (λ is. true≢false (sym is ∙ parts.0), any-none test texts parts.1)

pub lack-answers : (matcher : Matcher) (fold whole : Bool) (re : Tree) → Seeks matcher.machine fold whole re → (texts : List (List ℕ))
    → Lack fold whole re texts → list_any (answers matcher) texts ≡ false
lack-answers matcher fold whole re seeks [] lack = refl
lack-answers matcher fold whole re seeks (line ∷ texts) lack =
    rw (no_answer (answers matcher line) (Has fold whole line re) (answers-has matcher fold whole re line seeks) lack.0)
    (lack-answers matcher fold whole re seeks texts lack.1)

pub same-on : (first second third : Machine) → Same first second → Same second third → Same first third
same-on first second third one other =
    record { steps = other.steps ∙ one.steps; fold = other.fold ∙ one.fold; whole = other.whole ∙ one.whole }

pub stays-on : (first second third : Matcher) → Stays first second → Stays second third → Stays first third
stays-on first second third one other = record {
  machine = same-on first.machine second.machine third.machine one.machine other.machine;
  table = other.table ∙ one.table;
  literal = other.literal ∙ one.literal;
}

-- lines for which there is no answer lack the expression
pub lack-unanswered : (matcher : Matcher) (fold whole : Bool) (re : Tree) → Seeks matcher.machine fold whole re → (texts : List (List ℕ))
    → AllByRecursion (λ line. answers matcher line ≡ false) texts → Lack fold whole re texts
lack-unanswered matcher fold whole re seeks [] none = tt
lack-unanswered matcher fold whole re seeks (line ∷ texts) none = (
  λ has. true≢false (sym ((answers-has matcher fold whole re line seeks).1 has) ∙ none.0),
  lack-unanswered matcher fold whole re seeks texts none.1,
)

-- a matcher finds some expression, and what holds of its answers for each such expression holds
pub by_finder : (matcher : Matcher) (one other : Bool) → ((fold whole : Bool) (re : Tree) → Finds matcher fold whole re → one ≡ other) → one ≡ other
by_finder matcher one other each =
    ∥∥₁_elim matcher.made (Bool-set one other)
    (λ finder. each finder.fold finder.whole finder.re (record { seeks = finder.seeks; table = finder.made; literal = finder.looks }))

finder-same : (old new : Machine) (table : Option Table) (literal : Option Search) → Same old new → IsFinder old table literal → IsFinder new table literal
finder-same old new table literal same finder = record {
  fold = finder.fold;
  whole = finder.whole;
  re = finder.re;
  seeks = record {
    program = same.steps ∙ finder.seeks.program;
    folds = same.fold ∙ finder.seeks.folds;
    is_whole = same.whole ∙ finder.seeks.is_whole;
  };
  made =
      subst (λ steps. IfSome table (λ table. IsMade steps new.fold new.whole table)) (sym same.steps)
      (subst (λ fold. IfSome table (λ table. IsMade old.steps.items fold new.whole table)) (sym same.fold)
      (subst (λ whole. IfSome table (λ table. IsMade old.steps.items old.fold whole table)) (sym same.whole) finder.made));
  looks = finder.looks;
}

pub made-same : (old new : Machine) (table : Option Table) (literal : Option Search) → Same old new → ∥ IsFinder old table literal ∥₁ → ∥ IsFinder new table literal ∥₁
made-same old new table literal same made = ∥∥₁_map made (finder-same old new table literal same)

pub ruleset kept = (answers-stays)
