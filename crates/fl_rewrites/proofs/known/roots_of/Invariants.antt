use Rattle.fl_rewrites.proofs.MarkLemmas.{IsPassed}
use Rattle.fl_rewrites.proofs.known.roots_of.Given as goal

abbrev pub invariant-loop-node : goal.invariant-loop-node
invariant-loop-node l = IsPassed l.table.items l.nodes l.node-index
