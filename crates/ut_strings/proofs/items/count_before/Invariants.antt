use Rattle.std.proofs.Common.{◌≡◌, ◌+◌, length}
use Rattle.ut_strings.specs.Items.{count_before}
use Rattle.ut_strings.proofs.ItemLemmas.{raised}
use Rattle.ut_strings.proofs.items.count_before.Given as goal

abbrev pub invariant-loop-left : goal.invariant-loop-left
invariant-loop-left l = record {
  count : count_before l.mark l.marked ≡ raised l.count (count_before l.mark l.left);
  within : l.count + length l.left ≡ length l.marked;
}

abbrev pub decreases-loop-left : goal.decreases-loop-left
decreases-loop-left l = length l.left
