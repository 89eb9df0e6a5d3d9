use Rattle.std.proofs.Common.{◌≡◌, ◌<◌, length}
use Rattle.ut_regex.specs.Answers.{answered}
use Rattle.ut_regex.specs.Inner.Caches.{Serves}
use Rattle.ut_regex.specs.Inner.Seeks.{Same}
use Rattle.ut_regex.specs.Inner.Tables.{first_state, state_at, states_of}
use Rattle.ut_regex.proofs.cache.Cache.has.Given as goal

abbrev pub invariant-loop-left : goal.invariant-loop-left
invariant-loop-left l = record {
  known : l.state < length l.self.rows.items;
  serves : Serves l.machine l.self;
  same : Same l.fn.machine l.machine;
  told : answered l.machine.steps.items l.machine.fold l.machine.whole (state_at (states_of l.self.rows.items) l.state) l.left
      ≡ answered l.fn.machine.steps.items l.fn.machine.fold l.fn.machine.whole first_state l.line;
}

abbrev pub decreases-loop-left : goal.decreases-loop-left
decreases-loop-left l = length l.left
