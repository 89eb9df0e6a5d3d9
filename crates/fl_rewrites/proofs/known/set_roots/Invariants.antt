use Rattle.fl_rewrites.proofs.MarkLemmas.{IsRooted}
use Rattle.fl_rewrites.proofs.known.set_roots.Given as goal

abbrev pub invariant-loop-edge : goal.invariant-loop-edge
invariant-loop-edge l = IsRooted l.table.items l.root l.edges l.edge-index l.initial.table.items
