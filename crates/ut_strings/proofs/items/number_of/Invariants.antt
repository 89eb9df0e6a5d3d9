use Rattle.std.proofs.Common.{◌≡◌, ◌≤◌, length}
use Rattle.ut_strings.specs.Items.{number_onto}
use Rattle.ut_strings.proofs.items.number_of.Given as goal

abbrev pub invariant-loop-left : goal.invariant-loop-left
invariant-loop-left l = record {
  same : number_onto l.base 0 l.initial.left ≡ number_onto l.base l.number l.left;
  most : l.number ≤ 65537;
}

abbrev pub decreases-loop-left : goal.decreases-loop-left
decreases-loop-left l = length l.left
