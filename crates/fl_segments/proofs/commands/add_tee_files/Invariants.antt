use Rattle.std.proofs.Common.{◌≡◌, ◌++◌, drop}
use Rattle.fl_segments.specs.Inner.Drawing.{behind, drawn}
use Rattle.fl_segments.specs.Inner.Steps.{tee_edge, tee_steps}
use Rattle.fl_segments.proofs.commands.add_tee_files.Given as goal

abbrev pub invariant-loop-path : goal.invariant-loop-path
invariant-loop-path l =
    (l.drawing.nodes.items ++ drawn l.drawing.next (tee_steps l.number l.mode (drop l.path-index l.paths) l.on l.drawing.next) ≡ l.fn.drawing.nodes.items ++ drawn l.fn.drawing.next (tee_steps l.number l.mode l.paths l.edge l.fn.drawing.next))
    × (behind l.drawing.next (tee_steps l.number l.mode (drop l.path-index l.paths) l.on l.drawing.next) ≡ behind l.fn.drawing.next (tee_steps l.number l.mode l.paths l.edge l.fn.drawing.next))
    × (tee_edge (drop l.path-index l.paths) l.on l.drawing.next ≡ tee_edge l.paths l.edge l.fn.drawing.next)
