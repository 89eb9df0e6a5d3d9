use Rattle.ut_regex.proofs.LaneLemmas.{lanes-lesser}
use Rattle.ut_regex.proofs.lanes.lesser.Goals as goal

pub returns : goal.returns
returns c = lanes-lesser c.args.first c.args.second c.fits-first.0 c.fits-second.0
