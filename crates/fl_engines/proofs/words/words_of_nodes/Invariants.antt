use Rattle.std.proofs.Common.{◌≡◌, ◌++◌, drop}
use Rattle.fl_classes.specs.Used.{words_used}
use Rattle.fl_engines.proofs.words.words_of_nodes.Given as goal

abbrev pub invariant-loop-node : goal.invariant-loop-node
invariant-loop-node l = l.words.items ++ words_used (drop l.node-index l.nodes) ≡ words_used l.nodes
