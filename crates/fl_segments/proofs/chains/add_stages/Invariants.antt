use Rattle.std.proofs.Common.{length}
use Rattle.fl_segments.proofs.AddLemmas.{IsAt}
use Rattle.fl_segments.proofs.chains.add_stages.Given as goal

abbrev pub invariant-loop-left : goal.invariant-loop-left
invariant-loop-left l = IsAt l.width l.fn.drawing.nodes.items l.drawing.nodes.items l.fn.drawing.next l.drawing.next l.initial.coming l.coming l.segment l.left l.stage l.number

abbrev pub decreases-loop-left : goal.decreases-loop-left
decreases-loop-left l = length l.left
