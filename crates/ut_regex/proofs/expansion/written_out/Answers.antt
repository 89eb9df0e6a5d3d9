use Rattle.std.proofs.Common.{◌∙◌, ap, sym}
use Rattle.ut_regex.specs.Inner.Program.{programs}
use Rattle.ut_regex.proofs.NodeLemmas.{with_nodes-take}
use Rattle.ut_regex.proofs.expansion.written_out.Goals as goal

pub loop-node-preserved : goal.loop-node-preserved
loop-node-preserved c =
    c.in_ok-add_node.ensures _ c.loop-node.invariant
    ∙ ap programs (sym (with_nodes-take c.args.nodes.now c.loop-node.node-index c.node-item.result c.node-item.is c.loop-node-test.true))
