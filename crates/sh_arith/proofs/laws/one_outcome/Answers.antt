use Rattle.sh_arith.proofs.OutcomeLemmas.{one_written, one_outcome}
use Rattle.sh_arith.proofs.NeverLemmas.{no_memory}
use Rattle.sh_arith.proofs.SomeLemmas.{some_outcome}
use Rattle.sh_arith.proofs.laws.one_outcome.Goals as goal

pub returns-clause-tree : goal.returns-clause-tree
returns-clause-tree c = one_written

pub returns-clause-some : goal.returns-clause-some
returns-clause-some c = some_outcome

pub returns-clause-only : goal.returns-clause-only
returns-clause-only c = one_outcome

pub returns-clause-no_memory : goal.returns-clause-no_memory
returns-clause-no_memory c = no_memory
