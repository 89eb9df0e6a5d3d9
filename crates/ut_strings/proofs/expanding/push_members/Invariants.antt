use Rattle.std.proofs.Common.{◌≡◌, ◌++◌}
use Rattle.ut_strings.specs.Strings.{item_has, passing}
use Rattle.ut_strings.proofs.expanding.push_members.Given as goal

abbrev pub invariant-loop-number : goal.invariant-loop-number
invariant-loop-number l = l.bytes.items ≡ l.initial.bytes.items ++ passing (item_has l.item) l.number
