use Rattle.std.proofs.Common.{◌≡◌, false}
use Rattle.fl_graph.specs.Runs.{are_closed}
use Rattle.fl_relay.specs.Relays.{takes_on, taken}
use Rattle.fl_relay.proofs.tests.take_all.Given as goal

abbrev pub invariant-loop : goal.invariant-loop
invariant-loop g l = (are_closed (taken l.taker) ≡ false) × (takes_on l.taker ≡ takes_on l.initial.taker)
