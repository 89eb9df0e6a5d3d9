-- The shell's own commands (XCU 2.14, and the pages of true, false, echo, test and read).
use Rattle.std.specs.Prelude.{ℕ, zero, suc, min, ◌==◌, nat_le, List, [], ◌∷◌, Option, length, drop, if◌then◌else◌}
use Rattle.std.specs.FinMap as map
use Rattle.std.specs.Option.{unwrap_or}
use Rattle.ps_lines.specs.Lines.{has_newline}
use Rattle.ps_lines.specs.declared.newlines.TheConstants.{NEWLINE}
use Rattle.sh_arith.specs.Variables.{Variables}
use Rattle.sh_expand.specs.Separators.{ifs_of}
use Rattle.ut_test.specs.Echo.{echoed}
use Rattle.ut_test.specs.Tests.{tested_by}
use Rattle.ut_test.specs.Fields.{fields_read}
use Rattle.ut_test.specs.declared.outcomes.Tested.{Tested}
use Rattle.ut_test.specs.declared.outcomes.Tested.TheVariants as tested
use Rattle.sh_eval.specs.declared.flows.Flow.{Flow}
use Rattle.sh_eval.specs.declared.flows.Flow.TheVariants as flow
use Rattle.sh_eval.specs.States.{State, Means, ends, on, in_shell, leaves, puts, tells, to_read, reads_to}
use Rattle.sh_eval.specs.Lines.{bad_usage}
use Rattle.sh_eval.specs.Redirections.{named_by}
use Rattle.sh_eval.specs.Commands.{set_to}

-- bad usage is told, with status 2; of a special built-in it ends the shell (XCU 2.8.1)
abbrev pub misused : Flow → List ℕ → Means
misused how name state = ends how (leaves 2 (tells (bad_usage name) state))

-- true, false and `:`
abbrev pub succeeds : Means
succeeds state = on (leaves 0 state)

abbrev pub fails : Means
fails state = on (leaves 1 state)

-- echo
abbrev pub echoes : List (List ℕ) → Means
echoes operands state = on (leaves 0 (puts (echoed operands) state))

-- test and `[`, by their name and arguments
abbrev pub answers : List ℕ → Tested → Means
answers name tested.Yes state = on (leaves 0 state)
answers name tested.No state = on (leaves 1 state)
answers name tested.BadUsage state = misused flow.On name state

abbrev pub tests : List ℕ → List (List ℕ) → Means
tests name arguments state = answers name (tested_by (named_by state) arguments) state

-- break and continue: behind the outermost loop at most, and where there is no loop, nothing (own)
abbrev pub out_of : (ℕ → Flow) → ℕ → ℕ → Flow
out_of further count zero = flow.On
out_of further count (suc loops) = further (min count (suc loops))

abbrev pub leaves_loops : (ℕ → Flow) → ℕ → Means
leaves_loops further count state = ends (out_of further count state.shell.loops) (leaves 0 state)

-- exit
abbrev pub exits : Option ℕ → Means
exits status state = ends flow.Exit (leaves (unwrap_or status state.shell.status) state)

-- set
abbrev pub sets : List (List ℕ) → Means
sets arguments state = on (leaves 0 (in_shell (λ shell. record shell { arguments = arguments }) state))

-- shift: so many arguments go, and more than there are is bad usage
abbrev pub shifts : List ℕ → ℕ → Means
shifts name count state =
    if nat_le count (length state.shell.arguments) then sets (drop count state.shell.arguments) state
    else misused flow.Exit name state

-- unset
abbrev pub unset_all : List (List ℕ) → Variables → Variables
unset_all [] variables = variables
unset_all (name ∷ names) variables = unset_all names (map.remove variables name)

abbrev pub unsets : List (List ℕ) → Means
unsets names state = on (leaves 0 (in_shell (λ shell. record shell { variables = unset_all names shell.variables }) state))

-- read: one line is taken, and its fields go to the names; the status is 1 where no newline ends it
abbrev pub line_in : List ℕ → List ℕ
line_in [] = []
line_in (byte ∷ rest) = if byte == NEWLINE then [] else byte ∷ line_in rest

abbrev pub behind_line : List ℕ → List ℕ
behind_line [] = []
behind_line (byte ∷ rest) = if byte == NEWLINE then rest else behind_line rest

abbrev pub set_all : List (List ℕ) → List (List ℕ) → State → State
set_all [] texts state = state
set_all (name ∷ names) [] state = state
set_all (name ∷ names) (text ∷ texts) state = set_all names texts (set_to name text state)

abbrev pub reads : List (List ℕ) → Means
reads names state =
    on (leaves (if has_newline (to_read state) then 0 else 1)
    (set_all names (fields_read (ifs_of state.shell.variables) (line_in (to_read state)) (length names)) (reads_to (behind_line (to_read state)) state)))
