-- What a command does, for the functions that do it.
use Rattle.std.specs.Prelude.{List, [], Bool, true, false, ◌&&◌, nat_le, length}
use Rattle.ut_args.specs.Built.{is_built_of}
use Rattle.ut_args.specs.Inputs.{operands_of}
use Rattle.ut_args.specs.Invocations.{command_of}
use Rattle.ut_args.specs.declared.invocations.Inv.{Inv}
use Rattle.fl_segments.specs.Stages.{is_tee}
use Rattle.sh_eval.specs.declared.simple.Doing.{Doing}
use Rattle.sh_eval.specs.declared.simple.Doing.TheVariants as doing
use Rattle.sh_eval.specs.declared.flows.Flow.{Flow}
use Rattle.sh_eval.specs.declared.flows.Flow.TheVariants as flow
use Rattle.sh_eval.specs.States.{State, Means, on, leaves}
use Rattle.sh_eval.specs.Builtins.{misused}
use Rattle.sh_eval.specs.Inner.Inputs.{called_by}
use Rattle.sh_eval.specs.Redirections.{Use}
use Rattle.sh_eval.specs.Simple.{most_operands}
use Rattle.sh_eval.specs.Table.{pages}
use Rattle.sh_eval.specs.Utilities.{runs_utility, uses_by_operands}
use Rattle.sh_eval.specs.Teeing.{tees, uses_by_files}
use Rattle.sh_eval.specs.Asking.{Asked, no_name, unknown, unlisted, unusable, tee, utility, builtin, at_fault, does, is_special}

-- it is one of the shell's own commands
abbrev pub is_own : Asked → Bool
is_own no_name = false
is_own (unknown name) = false
is_own (unlisted name letter) = false
is_own (unusable is_special name) = false
is_own (tee name called) = false
is_own (utility name called) = false
is_own (builtin is_special means) = true

-- its assignments stay: those of a special built-in, and those of no command (XCU 2.9.1)
abbrev pub stays_of : Asked → Bool
stays_of no_name = true
stays_of (unknown name) = false
stays_of (unlisted name letter) = false
stays_of (unusable is_special name) = is_special
stays_of (tee name called) = false
stays_of (utility name called) = false
stays_of (builtin is_special means) = is_special

-- how the shell goes on where a redirection of it stops
abbrev pub way_of : Asked → Flow
way_of no_name = flow.On
way_of (unknown name) = flow.On
way_of (unlisted name letter) = flow.On
way_of (unusable is_special name) = at_fault is_special
way_of (tee name called) = flow.On
way_of (utility name called) = flow.On
way_of (builtin is_special means) = at_fault is_special

-- what it means, behind its assignments
abbrev pub own_means : Asked → Means
own_means no_name state = on (leaves state.shell.substitution_status state)
own_means (unknown name) state = on state
own_means (unlisted name letter) state = on state
own_means (unusable is_special name) state = misused (at_fault is_special) name state
own_means (tee name called) state = tees name called state
own_means (utility name called) state = runs_utility pages name called state
own_means (builtin is_special means) state = means state

-- the paths that it uses as its operands
abbrev pub uses_own : Asked → State → List Use
uses_own no_name state = []
uses_own (unknown name) state = []
uses_own (unlisted name letter) state = []
uses_own (unusable is_special name) state = []
uses_own (tee name called) state = uses_by_files called state
uses_own (utility name called) state = uses_by_operands pages called state
uses_own (builtin is_special means) state = []

-- a utility has a stream, and not too many operands
abbrev pub can_run : Inv → Bool
can_run inv = is_built_of inv && nat_le (length (operands_of inv)) most_operands

-- what is to be done
abbrev pub asked_of : Doing → Asked
asked_of doing.Nothing = no_name
asked_of (doing.Builtin name inv) = does name.now [] (command_of inv.now)
asked_of (doing.Misuse name) = unusable (is_special name.now) name.now
asked_of (doing.WrongPatterns name) = unusable false name.now
asked_of (doing.Tee name inv) = tee name.now (called_by inv.now)
asked_of (doing.Utility name inv) = utility name.now (called_by inv.now)

-- where it is said to be one of them, it is
abbrev pub can_be_done : Doing → Bool
can_be_done doing.Nothing = true
can_be_done (doing.Builtin name inv) = is_own (does name.now [] (command_of inv.now))
can_be_done (doing.Misuse name) = true
can_be_done (doing.WrongPatterns name) = true
can_be_done (doing.Tee name inv) = is_tee inv.now
can_be_done (doing.Utility name inv) = can_run inv.now
