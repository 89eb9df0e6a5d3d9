use Rattle.fl_rewrites.proofs.MarkLemmas.{IsMarked}
use Rattle.fl_rewrites.proofs.known.marks_of.Given as goal

abbrev pub invariant-loop-edge : goal.invariant-loop-edge
invariant-loop-edge l = IsMarked l.marks.items l.edges l.edge-index
