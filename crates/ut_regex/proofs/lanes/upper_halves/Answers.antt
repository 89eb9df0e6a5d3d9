use Rattle.std.proofs.Common.{◌/◌, ◌^◌}
use Rattle.ut_regex.proofs.LaneLemmas.{lanes-splat}
use Rattle.ut_regex.proofs.lanes.upper_halves.Goals as goal

pub returns : goal.returns
returns c = lanes-splat (λ byte bits. byte / 2 ^ bits) c.args.bytes 4 c.fits-bytes.0
