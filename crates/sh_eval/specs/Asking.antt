-- What the fields of a simple command ask for (XCU 2.9.1, 2.14), by the table of commands.
use Rattle.std.specs.Prelude.{ℕ, List, [], ◌∷◌, Bool, true, false, Result, Ok, Err, if◌then◌else◌, codes}
use Rattle.std.specs.List.{list_any}
use Rattle.std.specs.Option.{unwrap_or}
use Rattle.std.specs.Str.{bytes_eq}
use Rattle.ut_args.specs.Reading.{invocation}
use Rattle.ut_args.specs.declared.commands.Command.{Command}
use Rattle.ut_args.specs.declared.commands.Command.TheVariants as command
use Rattle.ut_args.specs.declared.faults.ArgFault.{ArgFault}
use Rattle.ut_args.specs.declared.faults.ArgFault.TheVariants as fault
use Rattle.sh_eval.specs.declared.flows.Flow.{Flow}
use Rattle.sh_eval.specs.declared.flows.Flow.TheVariants as flow
use Rattle.sh_eval.specs.States.{Means}
use Rattle.sh_eval.specs.Builtins.{succeeds, fails, echoes, tests, leaves_loops, exits, sets, shifts, unsets, reads}
use Rattle.sh_eval.specs.Utilities.{Called}

-- what a command is asked to do: nothing but its assignments and redirections, by a name that no command has, with a letter that it hasn't,
-- in words that it can't use, tee, another utility, or one of the shell's own commands. The flag says that it is a special built-in
pub data Asked : Type 0 where
  no_name : Asked
  unknown : List ℕ → Asked
  unlisted : List ℕ → ℕ → Asked
  unusable : Bool → List ℕ → Asked
  tee : List ℕ → Called → Asked
  utility : List ℕ → Called → Asked
  builtin : Bool → Means → Asked

-- how the shell goes on where a special built-in can't be run, and where another command can't (XCU 2.8.1)
abbrev pub at_fault : Bool → Flow
at_fault is_special = if is_special then flow.Exit else flow.On

-- the special built-ins of the table (XCU 2.14)
abbrev pub is_special : List ℕ → Bool
is_special name =
    list_any (bytes_eq name) (codes ":" ∷ codes "break" ∷ codes "continue" ∷ codes "exit" ∷ codes "set" ∷ codes "shift" ∷ codes "unset" ∷ [])

-- a command of the table: a utility, or one of the shell's own
abbrev pub does : List ℕ → List (List ℕ) → Command → Asked
does name words command.True = builtin false succeeds
does name words command.False = builtin false fails
does name words command.Colon = builtin true succeeds
does name words (command.Break args) = builtin true (leaves_loops (λ count. flow.Break count) (unwrap_or args.depth 1))
does name words (command.Continue args) = builtin true (leaves_loops (λ count. flow.Continue count) (unwrap_or args.depth 1))
does name words (command.Exit args) = builtin true (exits args.status)
does name words (command.Set args) = builtin true (sets args.arguments)
does name words (command.Shift args) = builtin true (shifts name (unwrap_or args.count 1))
does name words (command.Unset args) = builtin true (unsets args.names)
does name words (command.Read args) = builtin false (reads args.names)
does name words (command.Test args) = builtin false (tests name args.arguments)
does name words (command.Bracket args) = builtin false (tests name args.arguments)
does name words (command.Echo args) = builtin false (echoes args.operands)
does name words (command.Tee args) = tee name (record { words = words; command = command.Tee args })
does name words other = utility name (record { words = words; command = other })

abbrev pub asked_as : List ℕ → List (List ℕ) → Result Command ArgFault → Asked
asked_as name words (Ok asked) = does name words asked
asked_as name words (Err (fault.UnknownCommand other)) = unknown other
asked_as name words (Err (fault.UnsupportedFlag other letter)) = unlisted other letter
asked_as name words (Err (fault.BadUsage other)) = unusable (is_special other) other
asked_as name words (Err fault.Memory) = no_name

-- what fields ask for
abbrev pub asked_by : List (List ℕ) → Asked
asked_by [] = no_name
asked_by (name ∷ words) = asked_as name (name ∷ words) (invocation (name ∷ words))
