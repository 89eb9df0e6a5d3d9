use Rattle.std.proofs.Common.{subst, sym, reverse}
use Rattle.ut_regex.specs.Inner.Literals.{AreRequired}
use Rattle.ut_regex.proofs.LiteralLemmas.{all_taken}
use Rattle.ut_regex.proofs.NodeLemmas.{with_nodes-take}
use Rattle.ut_regex.proofs.literals.required_of.Goals as goal

pub loop-node-preserved : goal.loop-node-preserved
loop-node-preserved c = λ fold.
    subst (λ trees. AreRequired fold (reverse c.add_node.new.parts.items) trees)
    (sym (with_nodes-take c.args.nodes.now c.loop-node.node-index c.node-item.result c.node-item.is c.loop-node-test.true))
    (c.in_ok-add_node.ensures fold _ (c.loop-node.invariant fold))

pub returns : goal.returns
returns c = λ fold.
    let are = subst (λ trees. AreRequired fold (reverse c.loop-node.parts.items) trees)
    (all_taken c.args.nodes.now c.loop-node.node-index c.loop-node-test.false) (c.loop-node.invariant fold) in
    (c.last_part.ensures fold _ are).0
