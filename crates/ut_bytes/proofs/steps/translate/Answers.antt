use Rattle.std.proofs.Common.{◌≤◌, ◌++◌, length, take, drop, refl, sym, ◌∙◌, arith}
use Rattle.std.proofs.lemmas.List.{take_all}
use Rattle.ut_bytes.proofs.StepLemmas.{moved-all, moved-whole}
use Rattle.ut_bytes.specs.Inner.Tables.{image_at}
use Rattle.ut_bytes.specs.Steps.{translated}
use Rattle.ut_bytes.proofs.steps.translate.Goals as goal

pub returns : goal.returns
returns c =
    let all : length c.loop-place.bytes ≤ c.loop-place.place = grind (arith, c.loop-place-test.false, c.loop-place.auto.bytes) in
    sym (take_all c.loop-place.place c.loop-place.bytes all)
    ∙ moved-whole (take c.args.from c.args.bytes.now) (drop c.args.from c.args.bytes.now) (translated (image_at c.args.images.now)) (take c.loop-place.place c.loop-place.bytes) refl
    (moved-all (take c.args.from c.args.bytes.now) (λ more. translated (image_at c.args.images.now) (drop c.args.from c.args.bytes.now ++ more))
    (translated (image_at c.args.images.now)) c.loop-place.bytes c.loop-place.place c.loop-place.place c.loop-place.invariant all)
