use Rattle.fl_net.proofs.HistoryLemmas.{node_ran}
use Rattle.fl_net.proofs.laws.a_node_that_has_stopped_ran.Goals as goal

pub returns : goal.returns
returns c = node_ran
