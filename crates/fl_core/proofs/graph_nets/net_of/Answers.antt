use Rattle.std.proofs.Common.{List, subst}
use Rattle.fl_graph.specs.declared.graphs.Cell.{Cell}
use Rattle.fl_graph.specs.declared.kinds.NodeKind.{NodeKind}
use Rattle.fl_net.specs.Starts.{NodesHave}
use Rattle.fl_core.proofs.MachineLemmas.{begins_here}
use Rattle.fl_core.proofs.graph_nets.net_of.Goals as goal

pub of_graph-requires-clause-each : goal.of_graph-requires-clause-each
of_graph-requires-clause-each c =
    subst (λ (nodes : List (Cell NodeKind)). NodesHave begins_here nodes c.in_ok-machines.machines.items) c.as_slice.ensures c.in_ok-machines.ensures.each
