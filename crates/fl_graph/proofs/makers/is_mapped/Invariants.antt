use Rattle.std.proofs.Common.{◌≡◌, false, drop}
use Rattle.ut_args.specs.Invocations.{words_of}
use Rattle.fl_graph.specs.Checks.{comes_mapped}
use Rattle.fl_graph.proofs.makers.is_mapped.Given as goal

abbrev pub invariant-loop-node : goal.invariant-loop-node
invariant-loop-node l = comes_mapped (words_of l.inv) l.edge l.mapped (drop l.node-index l.earlier) ≡ comes_mapped (words_of l.inv) l.edge false l.earlier
