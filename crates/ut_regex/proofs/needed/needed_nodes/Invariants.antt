use Rattle.std.proofs.Common.{◌≡◌, ◌+◌, ◌≤◌, [], drop, length, reverse}
use Rattle.ut_regex.specs.Inner.Program.{cores}
use Rattle.ut_regex.specs.Tree.{with_nodes}
use Rattle.ut_regex.proofs.needed.needed_nodes.Given as goal

abbrev pub invariant-loop-node : goal.invariant-loop-node
invariant-loop-node l = record {
  same : cores (with_nodes (drop l.dropped (with_nodes [] l.left)) (reverse l.needed.items)) ≡ cores (with_nodes [] l.nodes);
  few : l.dropped + length l.left ≤ length l.nodes;
}

abbrev pub decreases-loop-node : goal.decreases-loop-node
decreases-loop-node l = length l.left
