use Rattle.std.proofs.Common.{◌≡◌}
use Rattle.fl_relay.specs.Eager.{eager_takes_on, eager_taken}
use Rattle.fl_relay.proofs.eager.EagerTaker.take.Given as goal

abbrev pub invariant-loop : goal.invariant-loop
invariant-loop g l =
    (goal.iterator-loop g).can_next l.iterator' × (goal.iterator-loop g).is_finite l.iterator'
    × (eager_takes_on l.self ≡ eager_takes_on l.initial.self) × (eager_taken l.self ≡ eager_taken l.initial.self)
