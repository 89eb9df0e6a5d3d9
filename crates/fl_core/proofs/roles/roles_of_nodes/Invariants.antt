use Rattle.std.proofs.Common.{◌≡◌, length}
use Rattle.fl_core.specs.EndLists.{numbers_of}
use Rattle.fl_core.specs.Roles.{role_of}
use Rattle.fl_net.specs.Starts.{NodesHave}
use Rattle.fl_core.proofs.roles.roles_of_nodes.Given as goal

abbrev pub invariant-loop-node : goal.invariant-loop-node
invariant-loop-node g l = (length l.roles.items ≡ l.node) × NodesHave (λ node cell it. it ≡ role_of cell.kind node (numbers_of l.ends.readers.items) (numbers_of l.ends.writers.items)) l.nodes l.roles.items
