use Rattle.std.proofs.Common.{◌≡◌, ◌++◌}
use Rattle.ut_strings.specs.Strings.{is_other, passing}
use Rattle.ut_strings.proofs.expanding.push_others.Given as goal

abbrev pub invariant-loop-number : goal.invariant-loop-number
invariant-loop-number l = l.others.items ≡ l.initial.others.items ++ passing (is_other l.bytes) l.number
