use Rattle.std.proofs.Common.{◌≡◌, false}
use Rattle.fl_graph.specs.Runs.{are_closed}
use Rattle.fl_relay.specs.Eager.{eager_takes_on, eager_taken}
use Rattle.fl_relay.proofs.tests.take_eagerly.Given as goal

abbrev pub invariant-loop : goal.invariant-loop
invariant-loop g l = (are_closed (eager_taken l.taker) ≡ false) × (eager_takes_on l.taker ≡ eager_takes_on l.initial.taker)
