use Rattle.std.proofs.Common.{arith, eqb, w8}
use Rattle.std.proofs.lemmas.Simd.{bitmask_splat, length-chunk}
use Rattle.ps_lines.proofs.SeekLemmas.{lowest_lane}
use Rattle.ps_lines.proofs.seek.newline_among_64.Goals as goal
use lib.Lanes.{chunk}

pub returns : goal.returns
returns c =
    lowest_lane c.args.text.now 64 _ c.lowest.result c.requires (omega arith)
    (bitmask_splat w8 eqb (chunk 0 64 c.args.text.now) 64 10 (length-chunk 0 64 c.args.text.now c.requires) (omega arith)) c.lowest.ensures
