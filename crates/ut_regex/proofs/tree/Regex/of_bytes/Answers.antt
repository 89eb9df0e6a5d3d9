use Rattle.std.proofs.Common.{[], refl, ap, ◌∙◌}
use Rattle.ut_regex.specs.Tree.{empty, leaf, sequence, with_nodes}
use Rattle.ut_regex.specs.declared.tree.Leaf.TheVariants.{Byte}
use Rattle.ut_regex.proofs.SeveralLemmas.{byte_more, plain_made}
use Rattle.ut_regex.proofs.tree.Regex.of_bytes.Goals as goal

pub loop-left-init : goal.loop-left-init
loop-left-init c = (empty, ap (λ nodes. with_nodes [] nodes) c.in_ok-nodes.ensures.items, refl)

pub loop-left-preserved : goal.loop-left-preserved
loop-left-preserved c = (
  sequence c.loop-left.invariant.0 (leaf (Byte _)),
  c.in_ok-add_byte.ensures c.loop-left.invariant.0 c.loop-left.invariant.1,
  byte_more c.loop-left.left.now c.loop-left.invariant.0 c.in-len1-up.len_at_least ∙ c.loop-left.invariant.2,
)

pub returns : goal.returns
returns c = plain_made c.loop-left.nodes.items c.loop-left.left.now c.args.bytes.now c.loop-left.invariant.0 c.in_default.len_below c.loop-left.invariant.1 c.loop-left.invariant.2
