use Rattle.std.proofs.Common.{◌≡◌, drop, arith}
use Rattle.ut_groups.specs.Inner.Runs.{common}
use Rattle.ut_groups.proofs.CommonLemmas.{common-less, common-whole}
use Rattle.ut_groups.proofs.runs.common.Goals as goal

pub returns-then-count-lt16 : goal.returns-then-count-lt16
returns-then-count-lt16 c =
    let count = c.common_among_16-count.ensures in
    omega (arith, count, common-less 16 c.args.one.now c.args.other.now (omega (arith, count, c.if-count-lt16.true)))

pub returns : goal.returns
returns c =
    let one = c.args.one.now in
    let other = c.args.other.now in
    let whole = common-whole 16 one other (omega (arith, c.common_among_16-count.ensures, c.if-count-lt16.false)) in
    let cut : common c.split_at.result.1.now c.split_at-2.result.1.now ≡ common (drop 16 one) (drop 16 other) =
    λ i. common (c.split_at.ensures.back i) (c.split_at-2.ensures.back i) in
    omega (arith, c.common_blocks.ensures, whole, cut)
