use Rattle.std.proofs.Common.{◌≡◌, drop}
use Rattle.fl_commands.specs.Graphs.{read_all_patterns}
use Rattle.fl_commands.proofs.graphs.read_all_patterns.Given as goal

abbrev pub invariant-loop-node : goal.invariant-loop-node
invariant-loop-node l = read_all_patterns l.nodes ≡ read_all_patterns (drop l.node-index l.nodes)
