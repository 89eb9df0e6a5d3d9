use Rattle.std.proofs.Common.{◌≡◌, false, drop, replicate}
use Rattle.fl_text.specs.Inner.Wirings.{are_free}
use Rattle.fl_text.proofs.wiring.are_numbered.Given as goal

abbrev pub invariant-loop-number : goal.invariant-loop-number
invariant-loop-number l = are_free l.marks.items (drop l.number-index l.numbers) ≡ are_free (replicate l.size false) l.numbers
