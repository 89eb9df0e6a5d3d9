use Rattle.ps_world.proofs.WritingLemmas.{one_kind-out}
use Rattle.ps_world.proofs.laws.a_file_that_is_written_stays_a_file.Goals as goal

pub returns : goal.returns
returns c files path bytes = one_kind-out files path bytes
