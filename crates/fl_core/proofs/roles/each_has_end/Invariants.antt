use Rattle.fl_core.proofs.EndListLemmas.{HaveEndsBelow}
use Rattle.fl_core.proofs.roles.each_has_end.Given as goal

abbrev pub invariant-loop-node : goal.invariant-loop-node
invariant-loop-node g l = HaveEndsBelow l.nodes l.ends l.node
