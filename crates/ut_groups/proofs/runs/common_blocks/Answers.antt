use Rattle.std.proofs.Common.{◌≡◌, drop, arith}
use Rattle.ut_groups.specs.Inner.Runs.{common}
use Rattle.ut_groups.proofs.CommonLemmas.{common-less, common-whole}
use Rattle.ut_groups.proofs.runs.common_blocks.Goals as goal

pub returns-then-count-lt64 : goal.returns-then-count-lt64
returns-then-count-lt64 c =
    let count = c.common_among_64-count.ensures in
    omega (arith, c.loop-rest.invariant.0, count, common-less 64 c.loop-rest.rest.now c.loop-rest.others.now (omega (arith, count, c.if-count-lt64.true)))

pub loop-rest-preserved : goal.loop-rest-preserved
loop-rest-preserved c =
    let rest = c.loop-rest.rest.now in
    let others = c.loop-rest.others.now in
    let whole = common-whole 64 rest others (omega (arith, c.common_among_64-count.ensures, c.if-count-lt64.false)) in
    let cut : common c.split_at.result.1.now c.split_at-in-loop-rest.result.1.now ≡ common (drop 64 rest) (drop 64 others) =
    λ i. common (c.split_at.ensures.back i) (c.split_at-in-loop-rest.ensures.back i) in (
      omega (arith, c.loop-rest.invariant.0, whole, cut),
      omega (arith, c.loop-rest.invariant.1, c.split_at.ensures.back_len, c.split_at-in-loop-rest.ensures.back_len),
    )
