-- Simple commands (XCU 2.9.1): their words are expanded, what they ask for is checked, and then their redirections, their assignments and
-- the command itself are done, in this order.
use Rattle.std.specs.Prelude.{ℕ, List, [], ◌∷◌, ◌++◌, Bool, false, nat_lt, length, Option, Some, None, if◌then◌else◌}
use Rattle.std.specs.FinMap as finite
use Rattle.sh_tree.specs.Trees.{WordTree, RedirTree}
use Rattle.sh_arith.specs.Variables.{Variables}
use Rattle.sh_expand.specs.Outcomes.{Expansions}
use Rattle.ut_args.specs.Inputs.{files_by, operands_by}
use Rattle.sh_eval.specs.declared.flows.Flow.TheVariants as flow
use Rattle.sh_eval.specs.declared.refusals.Refusal.TheVariants as refusal
use Rattle.sh_eval.specs.States.{State, Ends, Means, ends, on, refused, in_shell, leaves}
use Rattle.sh_eval.specs.Targets.{Target}
use Rattle.sh_eval.specs.Expanding.{with_fields, with_targets, assigning}
use Rattle.sh_eval.specs.Redirections.{Use, uses_of, where_free, in_redirections}
use Rattle.sh_eval.specs.Asking.{Asked, no_name, unknown, unlisted, unusable, tee, utility, builtin, at_fault, asked_by}
use Rattle.sh_eval.specs.Utilities.{Called, Pages, Patterns, read, wrong, refers_back, uses_by_operands, runs_utility}
use Rattle.sh_eval.specs.Teeing.{tees, uses_by_files}
use Rattle.sh_eval.specs.Builtins.{misused}

-- the most file operands of a command
abbrev pub most_operands : ℕ
most_operands = 256

-- the variables that were assigned for one command have their old values again
abbrev pub put_back : List ℕ → Option (List ℕ) → Variables → Variables
put_back name None variables = finite.remove variables name
put_back name (Some text) variables = finite.insert variables name text

abbrev pub restored : List (List ℕ × WordTree) → Variables → Variables → Variables
restored [] old variables = variables
restored (first ∷ rest) old variables = put_back first.0 (finite.get old first.0) (restored rest old variables)

abbrev pub undone : List (List ℕ × WordTree) → Variables → Ends → Ends
undone assigns old left = ends left.flow (in_shell (λ shell. record shell { variables = restored assigns old shell.variables }) left.state)

module _ (expansions : Expansions) where
  -- assignments stay behind a special built-in, and without a command's name
  abbrev pub assigned_for : Bool → List (List ℕ × WordTree) → Means → Means
  assigned_for stay assigns next state =
      if stay then assigning expansions assigns next state
      else undone assigns state.shell.variables (assigning expansions assigns next state)

  -- the command is run in its redirections and with its assignments, where no path is busy
  abbrev pub done : Bool → List (List ℕ × WordTree) → (State → List Use) → List Target → Means → Means
  done is_special assigns uses targets next state =
      where_free (uses state ++ uses_of state targets) (in_redirections (at_fault is_special) targets (assigned_for is_special assigns next)) state

  module _ (pages : Pages) where
    -- a utility is run where its patterns are read and it has not too many operands
    abbrev pub where_few : List (List ℕ) → Means → Means
    where_few operands next state = if nat_lt most_operands (length operands) then refused refusal.ArgsTooMany state else next state

    abbrev pub by_patterns : List ℕ → Called → List (List ℕ × WordTree) → List Target → Patterns → Means
    by_patterns name called assigns targets read state =
        where_few (operands_by called.command) (done false assigns (uses_by_operands pages called) targets (runs_utility pages name called)) state
    by_patterns name called assigns targets wrong state = done false assigns (λ state. []) targets (misused flow.On name) state
    by_patterns name called assigns targets (refers_back pattern) state = refused (refusal.UnsupportedPattern pattern) state

    -- the checks come in this order, and the first that fails is told
    abbrev pub checked : List (List ℕ × WordTree) → List Target → Asked → Means
    checked assigns targets no_name state =
        where_free (uses_of state targets) (in_redirections flow.On targets (assigning expansions assigns (λ state. on (leaves state.shell.substitution_status state)))) state
    checked assigns targets (unknown name) state = refused (refusal.UnknownCommand name) state
    checked assigns targets (unlisted name letter) state = refused (refusal.UnsupportedFlag name letter) state
    checked assigns targets (unusable is_special name) state = done is_special assigns (λ state. []) targets (misused (at_fault is_special) name) state
    checked assigns targets (tee name called) state = where_few (files_by called.command) (done false assigns (uses_by_files called) targets (tees name called)) state
    checked assigns targets (utility name called) state = by_patterns name called assigns targets (pages.patterns called.command) state
    checked assigns targets (builtin is_special means) state = done is_special assigns (λ state. []) targets means state

    -- a simple command, behind its substitutions
    abbrev pub runs_simple : List (List ℕ × WordTree) → List WordTree → List RedirTree → Means
    runs_simple assigns words redirs state =
        with_fields expansions words (λ fields. with_targets expansions redirs (λ targets. checked assigns targets (asked_by fields))) state
