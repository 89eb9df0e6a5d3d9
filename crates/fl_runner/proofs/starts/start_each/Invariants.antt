use Rattle.std.specs.Vec.Iter.{into_iter_items}
use Rattle.fl_core.specs.contracts.machines.NodeMachineMachine.TheImpl as machine
use Rattle.fl_runner.proofs.StartLemmas.{Begun}
use Rattle.fl_runner.proofs.starts.start_each.Given as goal

abbrev pub invariant-loop-halves : goal.invariant-loop-halves
invariant-loop-halves l = Begun machine.ghosts.state l.nodes l.node l.starts.items (into_iter_items l.halves-iterator)
