use Rattle.std.proofs.Common.{refl, arith}
use Rattle.std.proofs.lemmas.Simd.{length-chunk}
use Rattle.ut_groups.proofs.CommonLemmas.{lowest_common}
use Rattle.ut_groups.proofs.runs.common_among_16.Goals as goal
use lib.Lanes.{chunk}

pub returns : goal.returns
returns c =
    let one = c.args.one.now in
    let other = c.args.other.now in
    lowest_common (chunk 0 16 one) (chunk 0 16 other) 16 _ c.lowest_or.result (length-chunk 0 16 one c.requires.one)
    (length-chunk 0 16 other c.requires.other) (omega arith) refl c.lowest_or.ensures
