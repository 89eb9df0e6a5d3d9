use Rattle.std.proofs.Common.{◌++◌, take, drop}
use Rattle.ut_bytes.proofs.StepLemmas.{MovedTogether}
use Rattle.ut_bytes.specs.Inner.Tables.{image_at}
use Rattle.ut_bytes.specs.Steps.{translated}
use Rattle.ut_bytes.proofs.steps.translate.Given as goal

abbrev pub invariant-loop-place : goal.invariant-loop-place
invariant-loop-place l =
    MovedTogether (take l.from l.initial.bytes) (λ more. translated (image_at l.images) (drop l.from l.initial.bytes ++ more)) (translated (image_at l.images)) l.bytes l.place l.place
