use Rattle.std.proofs.Common.{◌≡◌, ◌++◌, drop}
use Rattle.fl_segments.specs.Inner.Drawing.{drawn}
use Rattle.fl_segments.specs.Inner.Steps.{each_ended}
use Rattle.fl_segments.proofs.inputs.add_ends.Given as goal

abbrev pub invariant-loop-edge : goal.invariant-loop-edge
invariant-loop-edge l =
    (l.drawing.nodes.items ++ drawn l.drawing.next (each_ended l.number (drop l.edge-index l.edges)) ≡ l.fn.drawing.nodes.items ++ drawn l.fn.drawing.next (each_ended l.number l.edges))
    × (l.drawing.next ≡ l.fn.drawing.next)
