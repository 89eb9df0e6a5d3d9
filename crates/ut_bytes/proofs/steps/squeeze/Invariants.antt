use Rattle.std.proofs.Common.{◌++◌, take, drop}
use Rattle.ut_bytes.proofs.StepLemmas.{MovedTogether}
use Rattle.ut_bytes.specs.Inner.Before.{before_of}
use Rattle.ut_bytes.specs.Inner.Tables.{marked}
use Rattle.ut_bytes.specs.Steps.{squeezed_behind}
use Rattle.ut_bytes.proofs.steps.squeeze.Given as goal

abbrev pub invariant-loop-place : goal.invariant-loop-place
invariant-loop-place l =
    MovedTogether (take l.from l.initial.bytes) (λ more. squeezed_behind (before_of l.last) (marked l.set) (drop l.from l.initial.bytes ++ more)) (squeezed_behind (before_of l.before) (marked l.set)) l.bytes l.left l.place
