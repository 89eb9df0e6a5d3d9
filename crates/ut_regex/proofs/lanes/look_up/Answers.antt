use Rattle.ut_regex.proofs.LaneLemmas.{may_look_up, lanes-look_up}
use Rattle.ut_regex.proofs.lanes.look_up.Goals as goal

pub swizzle : goal.swizzle
swizzle c = may_look_up c.args.places c.fits-places.0 c.requires

pub returns : goal.returns
returns c = lanes-look_up c.args.places c.fits-places.0 c.requires c.args.table.now
