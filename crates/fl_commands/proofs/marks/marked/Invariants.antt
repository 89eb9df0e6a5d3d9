use Rattle.std.proofs.Common.{◌≡◌, ◌++◌, Some, IfSome, true, map, length}
use Rattle.std.specs.List.{list_all}
use Rattle.ps_world.specs.Files.{Files, bytes_at}
use Rattle.fl_segments.specs.Groups.{holds_mark}
use Rattle.fl_commands.specs.Inner.Marks.{unmarked}
use Rattle.fl_commands.specs.Readers.{AreThere}
use Rattle.fl_commands.proofs.marks.marked.Given as goal

abbrev pub invariant-loop-left : goal.invariant-loop-left
invariant-loop-left g l = record {
  there : IfSome (g.T.Tree.state l.fn.tree).held (λ files. AreThere files l.left);
  same : map unmarked l.all.items ++ map unmarked l.left ≡ map unmarked l.ins;
  marks : (files : Files) → (g.T.Tree.state l.fn.tree).held ≡ Some files → list_all (holds_mark (bytes_at files)) l.all.items ≡ true;
  state : g.T.Tree.state l.tree ≡ g.T.Tree.state l.fn.tree;
  faults : g.T.Tree.faults l.tree ≡ g.T.Tree.faults l.fn.tree;
}

abbrev pub decreases-loop-left : goal.decreases-loop-left
decreases-loop-left g l = length l.left
