use Rattle.ps_fakes.specs.Trees.{entries_of}
use Rattle.ps_fakes.proofs.BoundedLemmas.{bounded-new}
use Rattle.ps_fakes.proofs.no_fail.NoFailTree.new.Goals as goal

pub invariant_of-result : goal.invariant_of-result
invariant_of-result c = record {
  planned = rw c.in_ok-tree.ensures.fails c.new.ensures.items;
  plain = c.in_ok-tree.ensures.reads;
  bounded = bounded-new c.in_ok-tree.tree c.args.home.now (entries_of c.args.entries.items) c.in_ok-tree.ensures.state c.requires.bounded;
}
