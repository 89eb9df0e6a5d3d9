use Rattle.std.proofs.Common.{◌≡◌, ◌+◌, ◌<◌, ℕ, true, slice_index}
use Rattle.ut_regex.specs.declared.tree.Leaf.TheVariants.{Byte}
use Rattle.ut_regex.specs.Spans.{fits}
use Rattle.ut_regex.proofs.folded.stands_at.Given as goal

abbrev pub invariant-loop-offset : goal.invariant-loop-offset
invariant-loop-offset l =
    (offset : ℕ) → offset < l.offset → fits true (Byte (slice_index l.bytes offset)) (slice_index l.text (l.place + offset)) ≡ true
