use Rattle.std.proofs.Common.{◌≡◌, ◌++◌, drop}
use Rattle.fl_rewrites.specs.Known.{files_given}
use Rattle.fl_rewrites.proofs.known.files_given.Given as goal

abbrev pub invariant-loop-node : goal.invariant-loop-node
invariant-loop-node l = l.edges.items ++ files_given (drop l.node-index l.nodes) ≡ files_given l.nodes
