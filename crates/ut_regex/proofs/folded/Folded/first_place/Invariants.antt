use Rattle.std.proofs.Common.{◌-◌, ◌≤◌, true, length}
use Rattle.memchr.specs.Find.{Nowhere}
use Rattle.ut_regex.specs.Inner.Literals.{StandsAt}
use Rattle.ut_regex.proofs.folded.Folded.first_place.Given as goal

abbrev pub invariant-loop-from : goal.invariant-loop-from
invariant-loop-from l = record {
  after : l.self.rare ≤ l.from;
  nowhere : Nowhere (StandsAt true l.text l.self.bytes.items) 0 (l.from - l.self.rare);
}

abbrev pub decreases-loop-from : goal.decreases-loop-from
decreases-loop-from l = length l.text - l.from
