use Rattle.std.proofs.Common.{◌++◌, take, drop}
use Rattle.ut_bytes.proofs.StepLemmas.{MovedTogether}
use Rattle.ut_bytes.specs.Inner.Tables.{marked}
use Rattle.ut_bytes.specs.Steps.{deleted}
use Rattle.ut_bytes.proofs.steps.delete.Given as goal

abbrev pub invariant-loop-place : goal.invariant-loop-place
invariant-loop-place l =
    MovedTogether (take l.from l.initial.bytes) (λ more. deleted (marked l.set) (drop l.from l.initial.bytes ++ more)) (deleted (marked l.set)) l.bytes l.left l.place
