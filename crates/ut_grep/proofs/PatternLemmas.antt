-- Patterns, and the expressions that they are read as.
use Rattle.std.proofs.Common.{◌≡◌, ◌↔◌, ℕ, ◌||◌, ◌⊎◌, inl, inr, ◌-◌, ◌<◌, ◌≤◌, arith, drop, get_or, length, take, Bool, true, false, List, [], ◌∷◌, ◌++◌, refl, ap, ap₂, sym, ◌∙◌, subst, append-nil}
use mathlib.Core.Path.{fun_ext}
use Rattle.std.specs.Global.{Vec}
use Rattle.std.specs.List.{list_any}
use Rattle.ps_lines.specs.Texts.{texts_of}
use Rattle.ps_lines.specs.Lines.{lines}
use Rattle.ut_args.specs.declared.commands.GrepArgs.{GrepArgs}
use Rattle.ut_args.specs.declared.commands.Syntax.{Syntax}
use Rattle.ut_args.specs.declared.commands.Syntax.TheVariants as syntax
use Rattle.ut_regex.specs.declared.fault.ReFault.{ReFault}
use Rattle.ut_regex.specs.declared.fault.ReFault.TheVariants.{Memory}
use Rattle.ut_regex.specs.Answers.{is_had}
use Rattle.ut_regex.specs.Reading.{Faults, IsRead, Reads}
use Rattle.ut_regex.specs.Several.{any_of}
use Rattle.ut_regex.specs.Tree.{Tree}
use Rattle.ut_regex.specs.Spans.{Has}
use Rattle.ut_regex.proofs.OneReadingLemmas.{reads_or_faults}
use Rattle.ut_regex.proofs.RunLemmas.{had-has}
use Rattle.ut_regex.proofs.SeveralLemmas.{had-any}
use Rattle.ut_regex.proofs.TotalLemmas.{reading, readings-had}
use Rattle.ut_grep.specs.Output.{due_by, picked, picked_by}
use Rattle.ut_grep.specs.Patterns.{first_number, head_of, is_had_by, is_selected, selects, tree_of, tree_read, written, ArePatterns, IsPattern, RefusesPattern}
use Rattle.ut_grep.specs.Tallies.{due_of, selects_of}
use Rattle.ut_grep.specs.declared.tally.Tally.{Tally}

-- a line has a pattern where it has the expression that the pattern is read as
read-found : (basic : Bool) (pattern : List ℕ) (re : Tree) → Reads basic pattern re → (fold whole : Bool) (line : List ℕ)
    → (read : IsRead basic pattern ⊎ ((fault : ReFault) × Faults basic pattern fault)) → is_had_by fold whole (tree_read basic pattern read) line ≡ is_had fold whole re line
read-found basic pattern re is fold whole line (inl (other, reads)) = readings-had basic pattern other re reads is fold whole line
read-found basic pattern re is fold whole line (inr (fault, faulty)) = absurd (reads_or_faults basic pattern re fault is faulty)

pattern-found : (form : Syntax) (pattern : List ℕ) (re : Tree) → IsPattern form pattern re → (fold whole : Bool) (line : List ℕ)
    → is_had_by fold whole (tree_of form pattern) line ≡ is_had fold whole re line
pattern-found syntax.Basic pattern re is fold whole line = read-found true pattern re is.0 fold whole line (reading true pattern)
pattern-found syntax.Extended pattern re is fold whole line = read-found false pattern re is.0 fold whole line (reading false pattern)
pattern-found syntax.Fixed pattern re is fold whole line = ap (λ re. is_had fold whole re line) (sym is)

pub pattern-had : (form : Syntax) (pattern : List ℕ) (re : Tree) → IsPattern form pattern re → (fold whole : Bool) (line : List ℕ)
    → (is_had_by fold whole (tree_of form pattern) line ≡ true) ↔ Has fold whole line re
pattern-had form pattern re is fold whole line =
    let same = pattern-found form pattern re is fold whole line in
    let had = had-has fold whole re line in
    (λ h. had.0 (sym same ∙ h), λ h. same ∙ had.1 h)

patterns-found : (form : Syntax) (patterns : List (List ℕ)) (trees : List Tree) → ArePatterns form patterns trees → (fold whole : Bool) (line : List ℕ)
    → list_any (λ pattern. is_had_by fold whole (tree_of form pattern) line) patterns ≡ list_any (λ re. is_had fold whole re line) trees
patterns-found form [] [] are fold whole line = refl
patterns-found form [] (re ∷ trees) are fold whole line = absurd are
patterns-found form (pattern ∷ patterns) [] are fold whole line = absurd are
patterns-found form (pattern ∷ patterns) (re ∷ trees) are fold whole line =
    ap₂ (λ (one other : Bool). one || other) (pattern-found form pattern re are.0 fold whole line) (patterns-found form patterns trees are.1 fold whole line)

-- lines are found by one expression for all patterns
pub all-found : (args : GrepArgs) (trees : List Tree) (had : List ℕ → Bool) → ArePatterns args.syntax args.patterns trees
    → ((line : List ℕ) → had line ≡ is_had args.ignores_case args.whole_lines (any_of trees) line) → (inverts : Bool) → inverts ≡ args.inverts
    → picked_by inverts had ≡ is_selected args
all-found args trees had are answers inverts same =
    fun_ext (λ line. ap₂ picked same
    (answers line ∙ had-any args.ignores_case args.whole_lines line trees ∙ sym (patterns-found args.syntax args.patterns trees are args.ignores_case args.whole_lines line)))

-- one pattern more is read
pub patterns-more : (form : Syntax) (patterns : List (List ℕ)) (trees : List Tree) (pattern : List ℕ) (re : Tree) → ArePatterns form patterns trees → IsPattern form pattern re
    → ArePatterns form (patterns ++ pattern ∷ []) (trees ++ re ∷ [])
patterns-more form [] [] pattern re are is = (is, tt)
patterns-more form [] (other ∷ trees) pattern re are is = absurd are
patterns-more form (first ∷ patterns) [] pattern re are is = absurd are
patterns-more form (first ∷ patterns) (other ∷ trees) pattern re are is = (are.0, patterns-more form patterns trees pattern re are.1 is)

-- memory is wanted for a pattern that is read
pub wanted : (form : Syntax) (pattern : List ℕ) (re : Tree) → IsPattern form pattern re → RefusesPattern form pattern Memory
wanted syntax.Basic pattern re is = (re, is.0)
wanted syntax.Extended pattern re is = (re, is.0)
wanted syntax.Fixed pattern re is = tt

-- a pattern is taken off texts
all-take : {X : Type 0} (items : List X) → take (length items) items ≡ items
all-take [] = refl
all-take (first ∷ items) = ap (λ rest. first ∷ rest) (all-take items)

pub text_more : (left : List (Vec ℕ)) (pattern : Vec ℕ) → pattern ≡ get_or left 0 pattern → 1 ≤ length left
    → texts_of left ≡ pattern.items ∷ texts_of (take (length left - 1) (drop 1 left))
text_more [] pattern is some = absurd (omega (arith, some))
text_more (first ∷ left) pattern is some =
    let size : length (first ∷ left) - 1 ≡ length left = omega arith in
    ap₂ (λ (pattern : Vec ℕ) (rest : List (Vec ℕ)). pattern.items ∷ texts_of rest) (sym is) (sym (ap (λ count. take count left) size ∙ all-take left))

pub texts_before : (form : Syntax) (before patterns : List (List ℕ)) (left : List (Vec ℕ)) (trees : List Tree) → length left < 1 → patterns ≡ before ++ texts_of left
    → ArePatterns form before trees → ArePatterns form patterns trees
texts_before form before patterns [] trees none is are = subst (λ patterns. ArePatterns form patterns trees) (sym (is ∙ append-nil before)) are
texts_before form before patterns (pattern ∷ left) trees none is are = absurd (omega (arith, none))

-- what is due before a line was taken is what grep writes
pub due-written : (args : GrepArgs) (label text : List ℕ) (tally : Tally) (inverts : Bool) (had : List ℕ → Bool) → tally.report ≡ args.report → tally.head.items ≡ head_of args label
    → tally.number ≡ first_number args → tally.count ≡ 0 → tally.selected ≡ false → picked_by inverts had ≡ is_selected args
    → due_of tally (picked_by inverts had) (lines text) ≡ written args label text
due-written args label text tally inverts had report head number count selected test =
    ap (λ report. due_by report (picked_by inverts had) tally.head.items tally.number tally.count tally.selected (lines text)) report
    ∙ ap (λ head. due_by args.report (picked_by inverts had) head tally.number tally.count tally.selected (lines text)) head
    ∙ ap (λ number. due_by args.report (picked_by inverts had) (head_of args label) number tally.count tally.selected (lines text)) number
    ∙ ap (λ count. due_by args.report (picked_by inverts had) (head_of args label) (first_number args) count tally.selected (lines text)) count
    ∙ ap (λ selected. due_by args.report (picked_by inverts had) (head_of args label) (first_number args) 0 selected (lines text)) selected
    ∙ ap (λ test. due_by args.report test (head_of args label) (first_number args) 0 false (lines text)) test

pub selects-written : (args : GrepArgs) (text : List ℕ) (tally : Tally) (inverts : Bool) (had : List ℕ → Bool) → tally.selected ≡ false → picked_by inverts had ≡ is_selected args
    → selects_of tally (picked_by inverts had) (lines text) ≡ selects args text
selects-written args text tally inverts had selected test =
    ap (λ selected. selected || list_any (picked_by inverts had) (lines text)) selected ∙ ap (λ test. list_any test (lines text)) test
