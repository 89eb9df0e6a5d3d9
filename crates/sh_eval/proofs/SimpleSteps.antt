-- What is evaluated of a simple command comes of what is evaluated behind its words and assignments.
use Rattle.std.proofs.Common.{◌≡◌, ℕ, List, [], ◌∷◌, ◌<◌, ◌≤◌, ◌+◌, nat_le, nat_lt, Bor, length, map, get_or, arith, Bool, true, false, Result, Ok, Err, Option, Some, None, refl, sym, ap, ◌∙◌, subst, if◌then◌else◌}
use Rattle.std.proofs.lemmas.List.{length-map}
use Rattle.std.proofs.lemmas.Bool.{true≢false, cond-true, cond-false, and_from, and_parts, le-leb, le-ltb, leb-true, lt-ltb}
use Rattle.std.specs.Global.{Vec}
use Rattle.ps_lines.specs.Texts.{texts_of}
use Rattle.ps_world.specs.TreeState.{TreeState}
use Rattle.sh_arith.specs.Variables.{Variables}
use Rattle.sh_tree.specs.Trees.{WordTree, RedirTree}
use Rattle.ut_args.specs.Built.{is_built_of}
use Rattle.ut_args.specs.Inputs.{files_by, operands_of}
use Rattle.ut_args.specs.Invocations.{command_of, words_of}
use Rattle.ut_args.specs.Reading.{invocation}
use Rattle.ut_args.specs.declared.commands.Command.{Command}
use Rattle.ut_args.specs.declared.commands.Command.TheVariants as command
use Rattle.ut_args.specs.declared.invocations.Inv.{Inv}
use Rattle.ut_args.specs.declared.invocations.Inv.TheVariants as invs
use Rattle.ut_args.specs.declared.faults.ArgFault.{ArgFault}
use Rattle.ut_args.specs.declared.faults.ArgFault.TheVariants as fault
use Rattle.fl_segments.specs.Stages.{is_tee}
use Rattle.sh_expand.specs.Outcomes.{Expansions}
use Rattle.sh_eval.specs.declared.flows.Flow.{Flow}
use Rattle.sh_eval.specs.declared.flows.Flow.TheVariants as flow
use Rattle.sh_eval.specs.declared.outcomes.How.{How}
use Rattle.sh_eval.specs.declared.outcomes.How.TheVariants as how
use Rattle.sh_eval.specs.declared.refusals.Refusal.{Refusal}
use Rattle.sh_eval.specs.declared.refusals.Refusal.TheVariants as refusal
use Rattle.sh_eval.specs.declared.session.Session.{Session}
use Rattle.sh_eval.specs.declared.shell.Shell.{Shell}
use Rattle.sh_eval.specs.declared.simple.Doing.{Doing}
use Rattle.sh_eval.specs.declared.simple.Doing.TheVariants as doing
use Rattle.sh_eval.specs.Shells.{with_env}
use Rattle.sh_eval.specs.States.{State, Means, refused}
use Rattle.sh_eval.specs.Asking.{Asked, no_name, unknown, unlisted, unusable, tee, utility, builtin, asked_as, asked_by, at_fault, does, is_special}
use Rattle.sh_eval.specs.Builtins.{misused}
use Rattle.sh_eval.specs.Contract.{Seen, Faults, Point, point_of, Base, Has, Comes, Meaning, Evaluates, PassesOn}
use Rattle.sh_eval.specs.Expanding.{assigning, with_targets}
use Rattle.sh_eval.specs.Growth.{Adds}
use Rattle.sh_eval.specs.Inner.Doing.{can_be_done, can_run, is_own, stays_of, way_of, own_means, uses_own, asked_of}
use Rattle.sh_eval.specs.Inner.Inputs.{called_by}
use Rattle.sh_eval.specs.Inner.Opening.{opened}
use Rattle.sh_eval.specs.Targets.{Target}
use Rattle.sh_eval.specs.Simple.{assigned_for, by_patterns, checked, done, most_operands, restored, undone}
use Rattle.sh_eval.specs.Table.{pages, patterns_of}
use Rattle.sh_eval.specs.Teeing.{tees, uses_by_files}
use Rattle.sh_eval.specs.Utilities.{Called, Patterns, read, refers_back, runs_utility, uses_by_operands, wrong}
use Rattle.sh_eval.proofs.Growing.{grows-self, AddsAsked, does-adds, asked-adds, adds-misused, adds-assigned_for, adds-by_patterns, adds-checked, adds-runs_utility, adds-tees, adds-with_targets}
use Rattle.sh_eval.proofs.Steps.{changed, meant-at}

-- what goes on with fields
abbrev pub behind_fields : List (List ℕ × WordTree) → List RedirTree → Expansions → List (List ℕ) → Means
behind_fields assigns redirs expansions fields = with_targets expansions redirs (λ targets. checked expansions pages assigns targets (asked_by fields))

pub fields-add : (assigns : List (List ℕ × WordTree)) (redirs : List RedirTree) (expansions : Expansions) (fields : List (List ℕ)) → Adds (behind_fields assigns redirs expansions fields)
fields-add assigns redirs expansions fields =
    adds-with_targets expansions redirs (λ targets. checked expansions pages assigns targets (asked_by fields)) (λ targets. adds-checked expansions pages assigns targets (asked_by fields) (asked-adds fields))

-- WHAT IS ASKED. A fault of the words is told or refused
abbrev pub is-told : ArgFault → Type 0
is-told (fault.UnknownCommand name) = Unit {0}
is-told (fault.UnsupportedFlag name letter) = Unit {0}
is-told (fault.BadUsage name) = Unit {0}
is-told fault.Memory = ⊥

told-so : (why : ArgFault) → is-told why → (asked : Result Command ArgFault) → ((why ≡ fault.Memory → ⊥) → asked ≡ Err why) → asked ≡ Err why
told-so why told asked is = is (λ memory. subst is-told memory told)

pub refused-at : (why : Refusal) (means : Meaning) (shell : Shell) (session : Session) (tree : TreeState) (seen : Seen) (faults : Faults)
    → ((expansions : Expansions) (base : Base) (state : State) → Has base (point_of shell session tree seen faults) state → refused why state ≡ means expansions state)
    → Evaluates means (point_of shell session tree seen faults) (how.Gone (flow.Refused why)) (point_of shell session tree seen faults)
refused-at why means shell session tree seen faults same =
    meant-at means (λ expansions. refused why) (point_of shell session tree seen faults) (point_of shell session tree seen faults) (how.Gone (flow.Refused why))
    (λ expansions base state has. sym (same expansions base state has)) (changed (flow.Refused why) (λ shell. shell) shell shell session tree seen faults refl)

pub refused-so : (why : Refusal) (means : Meaning) (shell : Shell) (session : Session) (tree : TreeState) (seen : Seen) (faults : Faults) → ((expansions : Expansions) (state : State) → refused why state ≡ means expansions state)
    → Evaluates means (point_of shell session tree seen faults) (how.Gone (flow.Refused why)) (point_of shell session tree seen faults)
refused-so why means shell session tree seen faults same = refused-at why means shell session tree seen faults (λ expansions base state has. same expansions state)

module _ (assigns : List (List ℕ × WordTree)) (targets : List Target) where
  pub asked-so : (name : List ℕ) (words : List (List ℕ)) (why : ArgFault) (asked : Result Command ArgFault) → is-told why → ((why ≡ fault.Memory → ⊥) → asked ≡ Err why) → (old new : Point) (came : How)
      → Evaluates (λ expansions. checked expansions pages assigns targets (asked_as name words (Err why))) old came new
      → Evaluates (λ expansions. checked expansions pages assigns targets (asked_as name words asked)) old came new
  asked-so name words why asked told is old new came one =
      subst (λ (it : Result Command ArgFault). Evaluates (λ expansions. checked expansions pages assigns targets (asked_as name words it)) old came new) (sym (told-so why told asked is)) one

-- one of the shell's own commands
pub own-so : (asked : Asked) → is_own asked ≡ true → (is_special : Bool) × (means : Means) × (asked ≡ builtin is_special means)
own-so no_name is = absurd (true≢false (sym is))
own-so (unknown name) is = absurd (true≢false (sym is))
own-so (unlisted name letter) is = absurd (true≢false (sym is))
own-so (unusable is_special name) is = absurd (true≢false (sym is))
own-so (tee name called) is = absurd (true≢false (sym is))
own-so (utility name called) is = absurd (true≢false (sym is))
own-so (builtin is_special means) is = (is_special, means, refl)

pub own-adds : (asked : Asked) → AddsAsked asked → Adds (own_means asked)
own-adds no_name adds state = grows-self state
own-adds (unknown name) adds state = grows-self state
own-adds (unlisted name letter) adds state = grows-self state
own-adds (unusable is_special name) adds state = adds-misused (at_fault is_special) name state
own-adds (tee name called) adds state = adds-tees name called state
own-adds (utility name called) adds state = adds-runs_utility pages name called state
own-adds (builtin is_special means) adds state = adds state

-- what is done in its redirections and behind its assignments
abbrev pub done_so : List (List ℕ × WordTree) → List Target → Asked → Meaning
done_so assigns targets asked = λ expansions. opened (way_of asked) (uses_own asked) targets (assigned_for expansions (stays_of asked) assigns (own_means asked))

pub own-checked : (asked : Asked) (assigns : List (List ℕ × WordTree)) (targets : List Target) (old new : Point) (came : How) → is_own asked ≡ true
    → Evaluates (done_so assigns targets asked) old came new → Evaluates (λ expansions. checked expansions pages assigns targets asked) old came new
own-checked no_name assigns targets old new came is one = absurd (true≢false (sym is))
own-checked (unknown name) assigns targets old new came is one = absurd (true≢false (sym is))
own-checked (unlisted name letter) assigns targets old new came is one = absurd (true≢false (sym is))
own-checked (unusable is_special name) assigns targets old new came is one = absurd (true≢false (sym is))
own-checked (tee name called) assigns targets old new came is one = absurd (true≢false (sym is))
own-checked (utility name called) assigns targets old new came is one = absurd (true≢false (sym is))
own-checked (builtin is_special means) assigns targets old new came is one = one

-- what is built, and not tee, is a utility
pub utility-so : (name : List ℕ) (it : Inv) → is_built_of it ≡ true → is_tee it ≡ false → does name (words_of it) (command_of it) ≡ utility name (called_by it)
utility-so name (invs.Cat it) built no_tee = refl
utility-so name (invs.Grep it) built no_tee = refl
utility-so name (invs.Tr it) built no_tee = refl
utility-so name (invs.Cut it) built no_tee = refl
utility-so name (invs.Head it) built no_tee = refl
utility-so name (invs.Tail it) built no_tee = refl
utility-so name (invs.Wc it) built no_tee = refl
utility-so name (invs.Uniq it) built no_tee = refl
utility-so name (invs.Sort it) built no_tee = refl
utility-so name (invs.Paste it) built no_tee = refl
utility-so name (invs.Tee it) built no_tee = absurd (true≢false no_tee)
utility-so name other built no_tee = absurd (true≢false (sym built))

-- tee
tee-does : (name : List ℕ) (it : Inv) → is_tee it ≡ true → does name (words_of it) (command_of it) ≡ tee name (called_by it)
tee-does name (invs.Tee it) is = refl
tee-does name other is = absurd (true≢false (sym is))

pub tee-so : (name : List ℕ) (it : Inv) (assigns : List (List ℕ × WordTree)) (targets : List Target) (old new : Point) (came : How) → is_tee it ≡ true
    → Evaluates (λ expansions. checked expansions pages assigns targets (tee name (called_by it))) old came new → Evaluates (λ expansions. checked expansions pages assigns targets (does name (words_of it) (command_of it))) old came new
tee-so name it assigns targets old new came is one =
    subst (λ (asked : Asked). Evaluates (λ expansions. checked expansions pages assigns targets asked) old came new) (sym (tee-does name it is)) one

module _ (name : List ℕ) (called : Called) (assigns : List (List ℕ × WordTree)) (targets : List Target) where
  abbrev tee_runs : Expansions → Means
  tee_runs expansions = done expansions false assigns (uses_by_files called) targets (tees name called)

  abbrev tee_checked : Meaning
  tee_checked expansions = checked expansions pages assigns targets (tee name called)

  -- one with too many files is refused
  pub tee-many : (shell : Shell) (session : Session) (tree : TreeState) (seen : Seen) (faults : Faults) → nat_lt most_operands (length (files_by called.command)) ≡ true
      → Evaluates tee_checked (point_of shell session tree seen faults) (how.Gone (flow.Refused refusal.ArgsTooMany)) (point_of shell session tree seen faults)
  tee-many shell session tree seen faults many =
      refused-so refusal.ArgsTooMany tee_checked shell session tree seen faults
      (λ expansions state. sym (cond-true (nat_lt most_operands (length (files_by called.command))) (refused refusal.ArgsTooMany state) (tee_runs expansions state) many))

  -- and any other is run
  pub tee-few : (old new : Point) (came : How) → nat_lt most_operands (length (files_by called.command)) ≡ false → Evaluates (done_so assigns targets (tee name called)) old came new → Evaluates tee_checked old came new
  tee-few old new came few one =
      meant-at tee_checked (done_so assigns targets (tee name called)) old new came
      (λ expansions base state has. cond-false (nat_lt most_operands (length (files_by called.command))) (refused refusal.ArgsTooMany state) (tee_runs expansions state) few) one

-- how many files there are, by those that were looked at
pub files-long : (files : List (List ℕ)) (texts : List (Vec ℕ)) → texts_of texts ≡ files → length files ≡ length texts
files-long files texts are = ap length (sym are) ∙ length-map texts (λ text. text.items)

pub files-many : (files : List (List ℕ)) (texts : List (Vec ℕ)) → texts_of texts ≡ files → 256 < length texts → nat_lt most_operands (length files) ≡ true
files-many files texts are many = let long = files-long files texts are in lt-ltb most_operands (length files) (omega (arith, many, long))

pub files-few : (files : List (List ℕ)) (texts : List (Vec ℕ)) → texts_of texts ≡ files → length texts ≤ 256 → nat_lt most_operands (length files) ≡ false
files-few files texts are few = let long = files-long files texts are in le-ltb most_operands (length files) (omega (arith, few, long))

module _ (name : List ℕ) (it : Inv) (assigns : List (List ℕ × WordTree)) (targets : List Target) where
  abbrev checks : Asked → Meaning
  checks asked expansions = checked expansions pages assigns targets asked

  abbrev the_utility : Asked
  the_utility = utility name (called_by it)

  -- by what was found of its patterns
  abbrev pub found_so : Patterns → Meaning
  found_so found expansions = by_patterns expansions pages name (called_by it) assigns targets found

  -- of a utility the patterns are looked at
  pub built-found : (old new : Point) (came : How) → is_built_of it ≡ true → is_tee it ≡ false → Evaluates (found_so (patterns_of (command_of it))) old came new
      → Evaluates (checks (does name (words_of it) (command_of it))) old came new
  built-found old new came is no_tee one =
      subst (λ (it : Asked). Evaluates (checks it) old came new) (sym (utility-so name it is no_tee)) one

  -- what was found of the patterns is what they are
  pub found-so : (found found' : Patterns) (old new : Point) (came : How) → found ≡ found' → Evaluates (found_so found) old came new → Evaluates (found_so found') old came new
  found-so found found' old new came is one = subst (λ (it : Patterns). Evaluates (found_so it) old came new) is one

  -- a back-reference is refused
  pub refers-so : (pattern : List ℕ) (shell : Shell) (session : Session) (tree : TreeState) (seen : Seen) (faults : Faults)
      → Evaluates (found_so (refers_back pattern)) (point_of shell session tree seen faults) (how.Gone (flow.Refused (refusal.UnsupportedPattern pattern))) (point_of shell session tree seen faults)
  refers-so pattern shell session tree seen faults =
      refused-so (refusal.UnsupportedPattern pattern) (found_so (refers_back pattern)) shell session tree seen faults (λ expansions state. refl)

  -- every other fault is bad usage
  pub wrong-so : (old new : Point) (came : How) → Evaluates (done_so assigns targets (unusable false name)) old came new → Evaluates (found_so wrong) old came new
  wrong-so old new came one = one

  -- whatever was found, what stands already is no longer
  pub found-adds : (found : Patterns) (expansions : Expansions) → Adds (found_so found expansions)
  found-adds found expansions = adds-by_patterns expansions pages name (called_by it) assigns targets found

  abbrev by_count : Expansions → Means
  by_count expansions = done expansions false assigns (uses_by_operands pages (called_by it)) targets (runs_utility pages name (called_by it))

  -- one with too many operands is refused
  pub too-many : (shell : Shell) (session : Session) (tree : TreeState) (seen : Seen) (faults : Faults) → nat_lt most_operands (length (operands_of it)) ≡ true
      → Evaluates (found_so read) (point_of shell session tree seen faults) (how.Gone (flow.Refused refusal.ArgsTooMany)) (point_of shell session tree seen faults)
  too-many shell session tree seen faults many =
      refused-so refusal.ArgsTooMany (found_so read) shell session tree seen faults
      (λ expansions state. sym (cond-true (nat_lt most_operands (length (operands_of it))) (refused refusal.ArgsTooMany state) (by_count expansions state) many))

  -- and any other is run
  pub utility-runs : (old new : Point) (came : How) → nat_lt most_operands (length (operands_of it)) ≡ false
      → Evaluates (done_so assigns targets the_utility) old came new → Evaluates (found_so read) old came new
  utility-runs old new came few one =
      meant-at (found_so read) (done_so assigns targets the_utility) old new came
      (λ expansions base state has. cond-false (nat_lt most_operands (length (operands_of it))) (refused refusal.ArgsTooMany state) (by_count expansions state) few) one

-- the words of one of the shell's own commands don't count beside its options and operands
same-own : (name : List ℕ) (words others : List (List ℕ)) (asked : Command) → is_own (does name words asked) ≡ true → does name words asked ≡ does name others asked
same-own name words others command.True is = refl
same-own name words others command.False is = refl
same-own name words others command.Colon is = refl
same-own name words others (command.Break args) is = refl
same-own name words others (command.Continue args) is = refl
same-own name words others (command.Exit args) is = refl
same-own name words others (command.Set args) is = refl
same-own name words others (command.Shift args) is = refl
same-own name words others (command.Unset args) is = refl
same-own name words others (command.Read args) is = refl
same-own name words others (command.Test args) is = refl
same-own name words others (command.Bracket args) is = refl
same-own name words others (command.Echo args) is = refl
same-own name words others (command.Cat args) is = absurd (true≢false (sym is))
same-own name words others (command.Grep args) is = absurd (true≢false (sym is))
same-own name words others (command.Tr args) is = absurd (true≢false (sym is))
same-own name words others (command.Cut args) is = absurd (true≢false (sym is))
same-own name words others (command.Head args) is = absurd (true≢false (sym is))
same-own name words others (command.Tail args) is = absurd (true≢false (sym is))
same-own name words others (command.Wc args) is = absurd (true≢false (sym is))
same-own name words others (command.Uniq args) is = absurd (true≢false (sym is))
same-own name words others (command.Sort args) is = absurd (true≢false (sym is))
same-own name words others (command.Paste args) is = absurd (true≢false (sym is))
same-own name words others (command.Tee args) is = absurd (true≢false (sym is))

pub own-named : (name : List ℕ) (words others : List (List ℕ)) (asked : Command) (assigns : List (List ℕ × WordTree)) (targets : List Target) (old new : Point) (came : How) → is_own (does name words asked) ≡ true
    → Evaluates (done_so assigns targets (does name others asked)) old came new
    → Evaluates (λ expansions. checked expansions pages assigns targets (does name words asked)) old came new
own-named name words others asked assigns targets old new came own one =
    own-checked (does name words asked) assigns targets old new came own
    (subst (λ (it : Asked). Evaluates (done_so assigns targets it) old came new) (sym (same-own name words others asked own)) one)

-- an invocation that was read
pub invoked : (name : List ℕ) (words : List (List ℕ)) (asked : Command) (found : Result Command ArgFault) (assigns : List (List ℕ × WordTree)) (targets : List Target) (old new : Point) (came : How) → found ≡ Ok asked
    → Evaluates (λ expansions. checked expansions pages assigns targets (does name words asked)) old came new
    → Evaluates (λ expansions. checked expansions pages assigns targets (asked_as name words found)) old came new
invoked name words asked found assigns targets old new came is one =
    subst (λ (it : Result Command ArgFault). Evaluates (λ expansions. checked expansions pages assigns targets (asked_as name words it)) old came new) (sym is) one

-- ASSIGNMENTS that stay, and those that are undone
pub stays : (is_special : Bool) (assigns : List (List ℕ × WordTree)) (means : Means) (old new : Point) (came : How) → is_special ≡ true
    → Evaluates (λ expansions. assigning expansions assigns means) old came new → Evaluates (λ expansions. assigned_for expansions is_special assigns means) old came new
stays is_special assigns means old new came is one =
    subst (λ (it : Bool). Evaluates (λ expansions. assigned_for expansions it assigns means) old came new) (sym is) one

pub bare-assigns : (is_special : Bool) (assigns : List (List ℕ × WordTree)) (means : Means) (old new : Point) (came : How) → assigns ≡ []
    → Evaluates (λ expansions. assigning expansions assigns means) old came new → Evaluates (λ expansions. assigned_for expansions is_special assigns means) old came new
bare-assigns is_special assigns means old new came none one =
    subst (λ (it : List (List ℕ × WordTree)). Evaluates (λ expansions. assigned_for expansions is_special it means) old came new) (sym none)
    (by_kind is_special (subst (λ (it : List (List ℕ × WordTree)). Evaluates (λ expansions. assigning expansions it means) old came new) none one))
  where
    by_kind : (is_special : Bool) → Evaluates (λ expansions. assigning expansions [] means) old came new → Evaluates (λ expansions. assigned_for expansions is_special [] means) old came new
    by_kind true found = found
    by_kind false found = found

pub undone-behind : (is_special : Bool) (assigns : List (List ℕ × WordTree)) (means : Means) (saved : Variables) (shell mid shell' : Shell) (session session' : Session) (tree tree' : TreeState) (seen seen' : Seen) (faults faults' : Faults) (came : How)
    → is_special ≡ false → saved ≡ shell.variables → shell' ≡ with_env (restored assigns saved mid.variables) mid
    → Evaluates (λ expansions. assigning expansions assigns means) (point_of shell session tree seen faults) came (point_of mid session' tree' seen' faults')
    → Evaluates (λ expansions. assigned_for expansions is_special assigns means) (point_of shell session tree seen faults) came (point_of shell' session' tree' seen' faults')
undone-behind is_special assigns means saved shell mid shell' session session' tree tree' seen seen' faults faults' came is saved_is shell_is one =
    rw is rw shell_is rw saved_is
    (record {
      comes = λ expansions are base state has. outer base state came expansions has.shell (one.comes expansions are base state has);
      keeps = λ gone. let keeps = one.keeps gone in record { whole = keeps.whole; files = keeps.files; output = keeps.output; errors = keeps.errors };
      turns = one.turns;
      later = one.later;
      cause = one.cause;
      lent = one.lent;
    })
  where
    outer : (base : Base) (state : State) (came : How) (expansions : Expansions) → shell ≡ state.shell → Comes base came (point_of mid session' tree' seen' faults') (assigning expansions assigns means state)
        → Comes base came (point_of (with_env (restored assigns shell.variables mid.variables) mid) session' tree' seen' faults') (undone assigns state.shell.variables (assigning expansions assigns means state))
    outer base state (how.Gone it) expansions is ended =
        record {
          flow = ended.flow;
          has = record {
            shell = ap (λ (old : Shell). with_env (restored assigns old.variables mid.variables) mid) is ∙ ap (λ (left : Shell). with_env (restored assigns state.shell.variables left.variables) left) ended.has.shell;
            session = ended.has.session;
            home = ended.has.home;
            held = ended.has.held;
            kept = ended.has.kept;
            seen = ended.has.seen;
          };
        }
    outer base state how.ReadFault expansions is behind = behind
    outer base state how.WriteFault expansions is behind = behind
    outer base state how.TreeFault expansions is behind = behind
    outer base state how.Memory expansions is behind = behind

-- what is done adds to what is there
pub doing-adds : (it : Doing) → Adds (own_means (asked_of it))
doing-adds doing.Nothing = own-adds no_name tt
doing-adds (doing.Builtin name inv) = own-adds (asked_of (doing.Builtin name inv)) (does-adds name.now [] (command_of inv.now))
doing-adds (doing.Misuse name) = own-adds (asked_of (doing.Misuse name)) tt
doing-adds (doing.WrongPatterns name) = own-adds (asked_of (doing.WrongPatterns name)) tt
doing-adds (doing.Tee name inv) = own-adds (asked_of (doing.Tee name inv)) tt
doing-adds (doing.Utility name inv) = own-adds (asked_of (doing.Utility name inv)) tt

pub done-adds : (assigns : List (List ℕ × WordTree)) (it : Doing) (expansions : Expansions) → Adds (assigned_for expansions (stays_of (asked_of it)) assigns (own_means (asked_of it)))
done-adds assigns it expansions = adds-assigned_for expansions (stays_of (asked_of it)) assigns (own_means (asked_of it)) (doing-adds it)

-- what its functions evaluate
abbrev pub Runs : Doing → Point → How → Point → Type 0
Runs doing.Nothing old came new = Evaluates (λ expansions. own_means no_name) old came new
Runs (doing.Builtin name inv) old came new =
    (words : List (List ℕ)) (is_special : Bool) (means : Means) → does name.now words (command_of inv.now) ≡ builtin is_special means → Evaluates (λ expansions. means) old came new
Runs (doing.Misuse name) old came new = Evaluates (λ expansions. misused (at_fault (is_special name.now)) name.now) old came new
Runs (doing.WrongPatterns name) old came new = Evaluates (λ expansions. misused flow.On name.now) old came new
Runs (doing.Tee name inv) old came new = Evaluates (λ expansions. tees name.now (called_by inv.now)) old came new
Runs (doing.Utility name inv) old came new = Evaluates (λ expansions. runs_utility pages name.now (called_by inv.now)) old came new

pub runs-own : (it : Doing) (old new : Point) (came : How) → can_be_done it ≡ true → Runs it old came new → Evaluates (λ expansions. own_means (asked_of it)) old came new
runs-own doing.Nothing old new came own run = run
runs-own (doing.Builtin name inv) old new came own run = by_own (own-so (does name.now [] (command_of inv.now)) own)
  where
    by_own : (is_special : Bool) × (means : Means) × (does name.now [] (command_of inv.now) ≡ builtin is_special means) → Evaluates (λ expansions. own_means (does name.now [] (command_of inv.now))) old came new
    by_own (is_special, means, is) = subst (λ (it : Asked). Evaluates (λ expansions. own_means it) old came new) (sym is) (run [] is_special means is)
runs-own (doing.Misuse name) old new came own run = run
runs-own (doing.WrongPatterns name) old new came own run = run
runs-own (doing.Tee name inv) old new came own run = run
runs-own (doing.Utility name inv) old new came own run = run

pub misuse-runs : (way : Flow) (name : List ℕ) (old new : Point) (came : How) → way ≡ at_fault (is_special name) → Evaluates (λ expansions. misused way name) old came new
    → Evaluates (λ expansions. misused (at_fault (is_special name)) name) old came new
misuse-runs way name old new came is one = subst (λ (it : Flow). Evaluates (λ expansions. misused it name) old came new) is one

pub misuse-checked : (assigns : List (List ℕ × WordTree)) (targets : List Target) (name given : List ℕ) (old new : Point) (came : How) → given ≡ name
    → Evaluates (done_so assigns targets (unusable (is_special given) given)) old came new
    → Evaluates (λ expansions. checked expansions pages assigns targets (unusable (is_special name) name)) old came new
misuse-checked assigns targets name given old new came is one =
    subst (λ (it : List ℕ). Evaluates (λ expansions. checked expansions pages assigns targets (unusable (is_special it) it)) old came new) is one

-- the way on where a redirection stops
pub by-way : (assigns : List (List ℕ × WordTree)) (targets : List Target) (asked : Asked) (way : Flow) (old new : Point) (came : How) → way ≡ way_of asked
    → Evaluates (λ expansions. opened way (uses_own asked) targets (assigned_for expansions (stays_of asked) assigns (own_means asked))) old came new → Evaluates (done_so assigns targets asked) old came new
by-way assigns targets asked way old new came is one =
    subst (λ (it : Flow). Evaluates (λ expansions. opened it (uses_own asked) targets (assigned_for expansions (stays_of asked) assigns (own_means asked))) old came new) is one

-- words without a name
pub unnamed : (assigns : List (List ℕ × WordTree)) (targets : List Target) (fields : List (List ℕ)) (old new : Point) (came : How) → fields ≡ []
    → Evaluates (done_so assigns targets no_name) old came new → Evaluates (λ expansions. checked expansions pages assigns targets (asked_by fields)) old came new
unnamed assigns targets fields old new came none one =
    subst (λ (it : List (List ℕ)). Evaluates (λ expansions. checked expansions pages assigns targets (asked_by it)) old came new) (sym none) one

-- words with a name, which is the first
pub named : {Field : Type 0} (text : Field → List ℕ) (assigns : List (List ℕ × WordTree)) (targets : List Target) (name : List ℕ) (fields : List Field) (one : Field) (old new : Point) (came : How)
    → one ≡ get_or fields 0 one → 0 < length fields → name ≡ text one
    → Evaluates (λ expansions. checked expansions pages assigns targets (asked_as name (map text fields) (invocation (map text fields)))) old came new
    → Evaluates (λ expansions. checked expansions pages assigns targets (asked_by (map text fields))) old came new
named text assigns targets name [] one old new came is below so ran = absurd (let none = below in omega (arith, none))
named text assigns targets name (first ∷ rest) one old new came is below so ran =
    subst (λ (it : List ℕ). Evaluates (λ expansions. checked expansions pages assigns targets (asked_as it (text first ∷ map text rest) (invocation (text first ∷ map text rest)))) old came new) (so ∙ ap text is) ran

-- behind fields and targets
pub behind-targets : (assigns : List (List ℕ × WordTree)) (redirs : List RedirTree) (fields given : List (List ℕ)) (targets chosen : List Target) (old mid new : Point) (came : How) → fields ≡ given → chosen ≡ targets
    → PassesOn (λ expansions. with_targets expansions redirs) old targets mid → Evaluates (λ expansions. checked expansions pages assigns chosen (asked_by fields)) mid came new
    → Evaluates (λ expansions. behind_fields assigns redirs expansions given) old came new
behind-targets assigns redirs fields given targets chosen old mid new came same is passes one =
    passes (λ expansions targets. checked expansions pages assigns targets (asked_by given)) came new
    (subst (λ (it : List (List ℕ)). Evaluates (λ expansions. checked expansions pages assigns targets (asked_by it)) mid came new) same
    (subst (λ (it : List Target). Evaluates (λ expansions. checked expansions pages assigns it (asked_by fields)) mid came new) is one))

-- what is done as tee is tee
pub run-tee : (it : Doing) (name : Bor (List ℕ)) (inv : Bor Inv) → it ≡ doing.Tee name inv → can_be_done it ≡ true → is_tee inv.now ≡ true
run-tee it name inv is can = sym (ap can_be_done is) ∙ can

-- what can be run is built, and has few operands
run-parts : (it : Doing) (name : Bor (List ℕ)) (inv : Bor Inv) → it ≡ doing.Utility name inv → can_be_done it ≡ true → (is_built_of inv.now ≡ true) × (nat_le (length (operands_of inv.now)) most_operands ≡ true)
run-parts it name inv is can = and_parts (is_built_of inv.now) (nat_le (length (operands_of inv.now)) most_operands) (sym (ap can_be_done is) ∙ can)

pub run-built : (it : Doing) (name : Bor (List ℕ)) (inv : Bor Inv) → it ≡ doing.Utility name inv → can_be_done it ≡ true → is_built_of inv.now ≡ true
run-built it name inv is can = (run-parts it name inv is can).0

pub run-few : (it : Doing) (name : Bor (List ℕ)) (inv : Bor Inv) → it ≡ doing.Utility name inv → can_be_done it ≡ true → length (operands_of inv.now) ≤ most_operands
run-few it name inv is can = leb-true (length (operands_of inv.now)) most_operands (run-parts it name inv is can).1

pub can-run : (inv : Inv) → is_built_of inv ≡ true → length (operands_of inv) ≤ most_operands → can_run inv ≡ true
can-run inv built few = and_from (is_built_of inv) (nat_le (length (operands_of inv)) most_operands) built (le-leb (length (operands_of inv)) most_operands few)

-- the words of an invocation are those that were read
pub words-so : (name : List ℕ) (words given : List (List ℕ)) (asked : Command) (assigns : List (List ℕ × WordTree)) (targets : List Target) (old new : Point) (came : How) → words ≡ given
    → Evaluates (λ expansions. checked expansions pages assigns targets (does name words asked)) old came new → Evaluates (λ expansions. checked expansions pages assigns targets (does name given asked)) old came new
words-so name words given asked assigns targets old new came is one =
    subst (λ (it : List (List ℕ)). Evaluates (λ expansions. checked expansions pages assigns targets (does name it asked)) old came new) is one

-- how many operands there are, by those that were looked at
as-long : (inv : Inv) (texts : List (Vec ℕ)) → texts_of texts ≡ operands_of inv → length (operands_of inv) ≡ length texts
as-long inv texts are = ap length (sym are) ∙ length-map texts (λ text. text.items)

pub many-so : (inv : Inv) (texts : List (Vec ℕ)) → texts_of texts ≡ operands_of inv → 256 < length texts → nat_lt most_operands (length (operands_of inv)) ≡ true
many-so inv texts are many = let long = as-long inv texts are in lt-ltb most_operands (length (operands_of inv)) (omega (arith, many, long))

pub few-enough : (inv : Inv) (texts : List (Vec ℕ)) → texts_of texts ≡ operands_of inv → length texts ≤ 256 → length (operands_of inv) ≤ most_operands
few-enough inv texts are few = let long = as-long inv texts are in omega (arith, few, long)

pub few-counted : (inv : Inv) → length (operands_of inv) ≤ most_operands → nat_lt most_operands (length (operands_of inv)) ≡ false
few-counted inv few = le-ltb most_operands (length (operands_of inv)) few
