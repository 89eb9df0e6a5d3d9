use Rattle.std.proofs.Common.{rules}
use Rattle.fl_rewrites.proofs.MarkLemmas.{passing_on}
use Rattle.fl_rewrites.proofs.known.roots_of.Goals as goal

pub loop-node-preserved : goal.loop-node-preserved
loop-node-preserved c =
    passing_on c.loop-node.table.items c.pass_roots.new.table.items c.args.nodes.now c.loop-node.node-index c.node-item.result (search rules) (search rules) c.loop-node.invariant c.pass_roots.ensures.roots c.pass_roots.ensures.size
