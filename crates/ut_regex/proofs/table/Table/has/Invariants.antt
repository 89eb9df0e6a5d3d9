use Rattle.std.proofs.Common.{◌≡◌, length}
use Rattle.ut_regex.specs.Inner.Tables.{runs}
use Rattle.ut_regex.proofs.RunLemmas.{AreBytes}
use Rattle.ut_regex.proofs.table.Table.has.Given as goal

abbrev pub invariant-loop-left : goal.invariant-loop-left
invariant-loop-left l = record {
  same : runs l.self.next.items l.self.ends.items 0 l.line ≡ runs l.self.next.items l.self.ends.items l.state l.left;
  bytes : AreBytes l.left;
}

abbrev pub decreases-loop-left : goal.decreases-loop-left
decreases-loop-left l = length l.left
