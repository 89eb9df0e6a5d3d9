use Rattle.std.proofs.Common.{◌≡◌, ◌++◌, replicate}
use Rattle.ut_strings.proofs.expanding.push_times.Given as goal

abbrev pub invariant-loop-number : goal.invariant-loop-number
invariant-loop-number l = l.bytes.items ≡ l.initial.bytes.items ++ replicate l.number l.byte
