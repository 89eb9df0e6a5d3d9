use Rattle.std.proofs.Common.{◌≡◌, ◌++◌, drop}
use Rattle.fl_segments.specs.Inner.Drawing.{behind, drawn}
use Rattle.fl_segments.specs.Inner.Steps.{map_steps}
use Rattle.fl_segments.proofs.spread.add_maps.Given as goal

abbrev pub invariant-loop-edge : goal.invariant-loop-edge
invariant-loop-edge l =
    (l.drawing.nodes.items ++ drawn l.drawing.next (map_steps l.number l.inv (drop l.edge-index l.edges)) ≡ l.fn.drawing.nodes.items ++ drawn l.fn.drawing.next (map_steps l.number l.inv l.edges))
    × (behind l.drawing.next (map_steps l.number l.inv (drop l.edge-index l.edges)) ≡ behind l.fn.drawing.next (map_steps l.number l.inv l.edges))
