use Rattle.std.proofs.Common.{◌≡◌, ◌+◌, ◌-◌, ◌≤◌, length, drop}
use Rattle.pash_bench.proofs.CountLemmas.{newline_count}
use Rattle.pash_bench.proofs.calls.count_newlines.Given as goal

abbrev pub invariant-loop-next : goal.invariant-loop-next
invariant-loop-next l = record { within : l.from ≤ length l.text; counted : l.count + newline_count (drop l.from l.text) ≡ newline_count l.text }

abbrev pub decreases-loop-next : goal.decreases-loop-next
decreases-loop-next l = length l.text - l.from
