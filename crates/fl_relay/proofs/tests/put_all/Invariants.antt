use Rattle.std.proofs.Common.{◌≡◌, false}
use Rattle.fl_graph.specs.Runs.{are_closed}
use Rattle.fl_relay.specs.Relays.{gives_on, given}
use Rattle.fl_relay.proofs.tests.put_all.Given as goal

abbrev pub invariant-loop-number : goal.invariant-loop-number
invariant-loop-number g l = (are_closed (given l.giver) ≡ false) × (gives_on l.giver ≡ gives_on l.initial.giver)
