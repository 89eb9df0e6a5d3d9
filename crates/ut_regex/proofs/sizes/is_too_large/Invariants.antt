use Rattle.std.proofs.Common.{◌≡◌, [], take, reverse}
use Rattle.ut_regex.specs.Tree.{with_nodes}
use Rattle.ut_regex.specs.Inner.Counted.{sizes_of}
use Rattle.ut_regex.proofs.sizes.is_too_large.Given as goal

abbrev pub invariant-loop-node : goal.invariant-loop-node
invariant-loop-node l = reverse l.sizes.items ≡ sizes_of (with_nodes [] (take l.node-index l.nodes))
