use Rattle.std.proofs.Common.{inl, inr}
use Rattle.ut_regex.specs.declared.tree.Node.TheVariants as node
use Rattle.ut_regex.proofs.LiteralLemmas.{at_node, if_ok_map}
use Rattle.ut_regex.proofs.literals.part_of.Goals as goal

pub returns-in-Begin : goal.returns-in-Begin
returns-in-Begin c = λ fold trees are. elim c.in-Begin.is [
  | inl begin ↦ at_node fold trees _ _ c.args.node node.Begin begin (c.no_bytes.ensures.begin fold) are
  | inr (inl end) ↦ at_node fold trees _ _ c.args.node node.End end (c.no_bytes.ensures.end fold) are
  | inr (inr empty) ↦ at_node fold trees _ _ c.args.node node.Empty empty (c.no_bytes.ensures.empty fold) are
]

pub returns-in-Sequence : goal.returns-in-Sequence
returns-in-Sequence c = if_ok_map c.followed_by.result (λ made followed fold trees are.
    let second = c.last_part-second.ensures fold trees are in
    let first = c.last_part-in-Sequence.ensures fold _ second.1 in
    at_node fold trees made _ c.args.node node.Sequence c.in-Sequence.is (followed fold _ _ first.0 second.0) first.1) c.followed_by.ensures

pub returns-in-Alternative : goal.returns-in-Alternative
returns-in-Alternative c = if_ok_map c.or.result (λ made either fold trees are.
    let second = c.last_part-second-in-Alternative.ensures fold trees are in
    let first = c.last_part-in-Alternative.ensures fold _ second.1 in
    at_node fold trees made _ c.args.node node.Alternative c.in-Alternative.is (either fold _ _ first.0 second.0) first.1) c.or.ensures

pub returns-in-Repetition : goal.returns-in-Repetition
returns-in-Repetition c = λ fold trees are.
    let part = c.last_part-in-Repetition.ensures fold trees are in
    at_node fold trees _ _ c.args.node (node.Repetition c.in-Repetition.bounds) c.in-Repetition.is (c.repeated.ensures fold _ part.0) part.1

pub returns-in-Leaf : goal.returns-in-Leaf
returns-in-Leaf c = if_ok_map c.of_leaf.result (λ made required fold trees are.
    at_node fold trees made _ c.args.node (node.Leaf c.in-Leaf.one) c.in-Leaf.is (required fold) are) c.of_leaf.ensures
