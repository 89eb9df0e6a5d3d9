use Rattle.ps_world.proofs.WritingLemmas.{one_kind-file, set_at}
use Rattle.ps_world.proofs.laws.a_write_changes_its_path_alone.Goals as goal

pub returns-clause-out : goal.returns-clause-out
returns-clause-out c files path = set_at files path _

pub returns-clause-filled : goal.returns-clause-filled
returns-clause-filled c files path bytes = set_at files path _

pub returns-clause-kinds : goal.returns-clause-kinds
returns-clause-kinds c files path is = one_kind-file files path is
