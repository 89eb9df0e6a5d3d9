use Rattle.ps_world.proofs.WritingLemmas.{whole_after}
use Rattle.ps_world.proofs.laws.no_writer_is_out_after_its_return.Goals as goal

pub returns : goal.returns
returns c old mid new path taken out filled none = whole_after old mid new path taken out filled none
