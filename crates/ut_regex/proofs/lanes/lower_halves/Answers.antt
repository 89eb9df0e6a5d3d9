use Rattle.std.proofs.Common.{bit_and, get_or, ◌∙◌}
use Rattle.std.proofs.lemmas.Nat.{and_mask}
use Rattle.ut_regex.proofs.LaneLemmas.{lanes-splat}
use Rattle.ut_regex.proofs.lanes.lower_halves.Goals as goal

pub returns : goal.returns
returns c =
    let masked = lanes-splat bit_and c.args.bytes 15 c.fits-bytes.0 in
    record { long = masked.long; each = λ lane low. masked.each lane low ∙ and_mask (get_or c.args.bytes lane 0) 4 }
