use Rattle.std.proofs.Common.{◌≡◌, false}
use Rattle.fl_graph.specs.Runs.{are_closed, has_end}
use Rattle.fl_relay.specs.Relays.{takes_on, taken}
use Rattle.fl_threads.proofs.runs.is_to_go.Given as goal

abbrev pub invariant-loop : goal.invariant-loop
invariant-loop g l =
    (are_closed (taken l.start) ≡ false) × (has_end (taken l.start) ≡ false) × (takes_on l.start ≡ takes_on l.initial.start)
