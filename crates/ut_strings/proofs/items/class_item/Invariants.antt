use Rattle.std.proofs.Common.{◌≡◌, ◌++◌, length}
use Rattle.ut_strings.specs.Items.{bytes_of}
use Rattle.ut_strings.proofs.items.class_item.Given as goal

abbrev pub invariant-loop-left : goal.invariant-loop-left
invariant-loop-left l = bytes_of l.initial.left ≡ l.bytes.items ++ bytes_of l.left

abbrev pub decreases-loop-left : goal.decreases-loop-left
decreases-loop-left l = length l.left
