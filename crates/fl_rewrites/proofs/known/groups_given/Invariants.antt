use Rattle.std.proofs.Common.{◌≡◌, ◌++◌, drop}
use Rattle.fl_rewrites.specs.Inner.Tables.{marked}
use Rattle.fl_rewrites.specs.Known.{groups_by}
use Rattle.fl_rewrites.proofs.known.groups_given.Given as goal

abbrev pub invariant-loop-node : goal.invariant-loop-node
invariant-loop-node l = l.edges.items ++ groups_by (marked l.files) (drop l.node-index l.nodes) ≡ groups_by (marked l.files) l.nodes
