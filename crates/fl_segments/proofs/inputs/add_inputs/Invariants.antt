use Rattle.std.proofs.Common.{◌≡◌, ◌++◌, drop}
use Rattle.fl_segments.specs.Inner.Drawing.{behind, drawn}
use Rattle.fl_segments.specs.Inner.Steps.{in_edges, in_steps}
use Rattle.fl_segments.proofs.inputs.add_inputs.Given as goal

abbrev pub invariant-loop-it : goal.invariant-loop-it
invariant-loop-it l =
    (l.drawing.nodes.items ++ drawn l.drawing.next (in_steps l.number l.coming (drop l.it-index l.ins)) ≡ l.fn.drawing.nodes.items ++ drawn l.fn.drawing.next (in_steps l.number l.coming l.ins))
    × (behind l.drawing.next (in_steps l.number l.coming (drop l.it-index l.ins)) ≡ behind l.fn.drawing.next (in_steps l.number l.coming l.ins))
    × (l.edges.items ++ in_edges l.number l.coming (drop l.it-index l.ins) l.drawing.next ≡ in_edges l.number l.coming l.ins l.fn.drawing.next)
