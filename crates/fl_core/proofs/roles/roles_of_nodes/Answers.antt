use Rattle.std.proofs.Common.{◌≡◌, rules}
use Rattle.fl_core.specs.EndLists.{numbers_of}
use Rattle.fl_core.specs.Roles.{role_of}
use Rattle.fl_net.proofs.GraphNetLemmas.{nodes_more}
use Rattle.fl_core.proofs.RoleLemmas.{has_roles}
use Rattle.fl_core.proofs.roles.roles_of_nodes.Goals as goal

pub loop-node-preserved : goal.loop-node-preserved
loop-node-preserved g c =
    nodes_more (λ node cell it. it ≡ role_of cell.kind node (numbers_of c.args.ends.now.readers.items) (numbers_of c.args.ends.now.writers.items)) c.args.nodes.now c.loop-node.roles.items _ c.role_of.result
    c.loop-node.node c.index-nodes-node.result (search rules) (search rules) (search rules) c.loop-node.invariant (search rules)

pub returns : goal.returns
returns g c = has_roles c.args.nodes.now c.args.ends.now c.loop-node.roles.items (search rules) c.loop-node.invariant.1
