use Rattle.std.proofs.Common.{bit_or}
use Rattle.ut_regex.proofs.LaneLemmas.{lanes-zip2}
use Rattle.ut_regex.proofs.lanes.either.Goals as goal

pub returns : goal.returns
returns c = lanes-zip2 bit_or c.args.first c.args.second c.fits-first.0 c.fits-second.0
