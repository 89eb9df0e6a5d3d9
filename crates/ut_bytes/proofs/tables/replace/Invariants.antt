use Rattle.std.proofs.Common.{◌≡◌, ℕ, get_or, length}
use Rattle.ut_args.specs.Strings.{image}
use Rattle.ut_bytes.proofs.tables.replace.Given as goal

abbrev pub invariant-loop-left : goal.invariant-loop-left
invariant-loop-left l =
    ((byte : ℕ) → image byte (get_or l.images.items byte byte) l.current l.left l.others
    ≡ image byte (get_or l.initial.images.items byte byte) l.last l.initial.left l.initial.others)
    × (length l.images.items ≡ 256)

abbrev pub decreases-loop-left : goal.decreases-loop-left
decreases-loop-left l = length l.left
