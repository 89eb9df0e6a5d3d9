use Rattle.std.proofs.Common.{◌≡◌, ◌||◌, ℕ, false, get_or, length}
use Rattle.ut_options.specs.Rows.{is_among}
use Rattle.ut_bytes.proofs.tables.mark.Given as goal

abbrev pub invariant-loop-left : goal.invariant-loop-left
invariant-loop-left l =
    ((byte : ℕ) → (get_or l.marks.items byte false || is_among l.left byte) ≡ (get_or l.initial.marks.items byte false || is_among l.initial.left byte))
    × (length l.marks.items ≡ 256)

abbrev pub decreases-loop-left : goal.decreases-loop-left
decreases-loop-left l = length l.left
