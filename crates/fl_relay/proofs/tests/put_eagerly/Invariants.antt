use Rattle.std.proofs.Common.{◌≡◌, false}
use Rattle.fl_graph.specs.Runs.{are_closed}
use Rattle.fl_relay.specs.Eager.{eager_gives_on, eager_given}
use Rattle.fl_relay.proofs.tests.put_eagerly.Given as goal

abbrev pub invariant-loop : goal.invariant-loop
invariant-loop g l = (are_closed (eager_given l.giver) ≡ false) × (eager_gives_on l.giver ≡ eager_gives_on l.initial.giver)
