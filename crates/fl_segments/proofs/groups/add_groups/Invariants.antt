use Rattle.fl_segments.proofs.AddLemmas.{GroupsLeft}
use Rattle.fl_segments.proofs.groups.add_groups.Given as goal

abbrev pub invariant-loop-group : goal.invariant-loop-group
invariant-loop-group l = GroupsLeft l.width l.number l.edges l.fn.drawing.nodes.items l.fn.drawing.next l.group l.drawing.nodes.items l.drawing.next
