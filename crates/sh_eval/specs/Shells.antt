-- What a shell keeps for itself (XCU 2.12).
use Rattle.std.specs.Prelude.{ℕ, List, []}
use Rattle.std.specs.FinMap as map
use Rattle.sh_arith.specs.Variables.{Variables}
use Rattle.sh_eval.specs.declared.shell.Shell.{Shell}

-- a shell in which no variable is set
abbrev pub started : List ℕ → List (List ℕ) → Shell
started zero arguments =
    record {
      variables = map.empty;
      zero = zero;
      arguments = arguments;
      status = 0;
      loops = 0;
      body_status = 0;
      substituted = [];
      substitution_status = 0;
    }

-- the shell of a subshell, a stage or a substitution (XCU 2.12): no loop of its own encloses a command
abbrev pub inside : Shell → Shell
inside shell = record shell { loops = 0; body_status = 0; substituted = []; substitution_status = 0 }

abbrev pub with_status : ℕ → Shell → Shell
with_status status shell = record shell { status = status }

abbrev pub with_env : Variables → Shell → Shell
with_env variables shell = record shell { variables = variables }
