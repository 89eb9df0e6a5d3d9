use Rattle.std.proofs.Common.{◌++◌, take, drop, refl, arith}
use Rattle.ut_bytes.proofs.StepLemmas.{moved-all, moved-whole}
use Rattle.ut_bytes.specs.Inner.Tables.{marked}
use Rattle.ut_bytes.specs.Steps.{deleted}
use Rattle.ut_bytes.proofs.steps.delete.Goals as goal

pub returns-clause-left : goal.returns-clause-left
returns-clause-left c =
    moved-whole (take c.args.from c.args.bytes.now) (drop c.args.from c.args.bytes.now) (deleted (marked c.args.set.now)) (take c.loop-place.left c.loop-place.bytes) refl
    (moved-all (take c.args.from c.args.bytes.now) (λ more. deleted (marked c.args.set.now) (drop c.args.from c.args.bytes.now ++ more)) (deleted (marked c.args.set.now))
    c.loop-place.bytes c.loop-place.left c.loop-place.place c.loop-place.invariant (grind (arith, c.loop-place-test.false, c.loop-place.auto.bytes)))
