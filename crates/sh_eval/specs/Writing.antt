-- What is written, and how a command goes on behind it.
use Rattle.std.specs.Prelude.{ℕ, List, ◌++◌, Result, Ok, Err}
use Rattle.std.specs.FinMap as map
use Rattle.ps_world.specs.Paths.{Components}
use Rattle.ps_world.specs.Files.{Files, Bytes, bytes_at}
use Rattle.ps_world.specs.declared.error.WorldErr.{WorldErr}
use Rattle.ps_world.specs.declared.error.WorldErr.TheVariants as error
use Rattle.sh_eval.specs.declared.flows.Flow.TheVariants as flow
use Rattle.sh_eval.specs.declared.outcomes.How.{How}
use Rattle.sh_eval.specs.declared.outcomes.How.TheVariants as how

-- how a command goes on behind what it wrote to the standard output or error
abbrev pub written : {T : Type 0} → Result T WorldErr → How
written (Ok value) = how.Gone flow.On
written (Err error.Failed) = how.WriteFault
written (Err error.Memory) = how.Memory

-- and behind what it wrote to a file
abbrev pub kept : {T : Type 0} → Result T WorldErr → How
kept (Ok value) = how.Gone flow.On
kept (Err error.Failed) = how.TreeFault
kept (Err error.Memory) = how.Memory

-- the file at the path is longer by these bytes
abbrev pub added_to : Components → List ℕ → Files → Files
added_to path bytes files = map.insert files path (Bytes (bytes_at files path ++ bytes))
