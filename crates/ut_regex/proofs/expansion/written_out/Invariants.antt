use Rattle.std.proofs.Common.{◌≡◌, [], take}
use Rattle.ut_regex.specs.Tree.{with_nodes}
use Rattle.ut_regex.specs.Inner.Program.{parts_of, programs}
use Rattle.ut_regex.proofs.expansion.written_out.Given as goal

abbrev pub invariant-loop-node : goal.invariant-loop-node
invariant-loop-node l = parts_of l.parts.items ≡ programs (with_nodes [] (take l.node-index l.nodes))
