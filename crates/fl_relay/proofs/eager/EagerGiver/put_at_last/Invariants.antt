use Rattle.std.proofs.Common.{◌≡◌}
use Rattle.fl_relay.specs.Eager.{eager_gives_on, eager_given}
use Rattle.fl_relay.proofs.eager.EagerGiver.put_at_last.Given as goal

abbrev pub invariant-loop : goal.invariant-loop
invariant-loop g l =
    (goal.iterator-loop g).can_next l.iterator' × (goal.iterator-loop g).is_finite l.iterator'
    × (eager_gives_on l.self ≡ eager_gives_on l.initial.self) × (eager_given l.self ≡ eager_given l.initial.self) × (l.piece ≡ l.initial.piece)
