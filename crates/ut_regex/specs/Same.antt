-- Expressions that are the same, however their sets of bytes are kept.
use Rattle.std.specs.Prelude.{ℕ, ◌≡◌, ◌<◌}
use Rattle.ps_lines.specs.declared.ByteSet.{ByteSet}
use Rattle.ps_lines.specs.ByteSet.{has_byte}
use Rattle.ut_regex.specs.declared.tree.Bounds.{Bounds}
use Rattle.ut_regex.specs.declared.tree.Leaf.{Leaf}
use Rattle.ut_regex.specs.declared.tree.Leaf.TheVariants.{Byte, Any, Among, NotAmong}
use Rattle.ut_regex.specs.Tree.{Tree, leaf, line_begin, line_end, empty, group, sequence, alternative, repetition}

-- two sets hold the same bytes
abbrev pub SameBytes : ByteSet → ByteSet → Type 0
SameBytes set other = (byte : ℕ) → byte < 256 → has_byte set byte ≡ has_byte other byte

-- two leaves ask for the same
pub data SameLeaf : Leaf → Leaf → Type 0 where
  same_byte : {byte : ℕ} → SameLeaf (Byte byte) (Byte byte)
  same_any : SameLeaf Any Any
  same_among : {set other : ByteSet} → SameBytes set other → SameLeaf (Among set) (Among other)
  same_not_among : {set other : ByteSet} → SameBytes set other → SameLeaf (NotAmong set) (NotAmong other)

-- two repetitions have the same bounds
abbrev pub SameBounds : Bounds → Bounds → Type 0
SameBounds one other = (one.low ≡ other.low) × (one.high ≡ other.high)

-- two expressions are built in the same way of leaves that are the same
pub data SameTree : Tree → Tree → Type 0 where
  same_leaf : {one other : Leaf} → SameLeaf one other → SameTree (leaf one) (leaf other)
  same_begin : SameTree line_begin line_begin
  same_end : SameTree line_end line_end
  same_empty : SameTree empty empty
  same_group : {part other : Tree} → SameTree part other → SameTree (group part) (group other)
  same_sequence : {first second one other : Tree} → SameTree first one → SameTree second other → SameTree (sequence first second) (sequence one other)
  same_alternative : {first second one other : Tree} → SameTree first one → SameTree second other
      → SameTree (alternative first second) (alternative one other)
  same_repetition : {one other : Bounds} {part again : Tree} → SameBounds one other → SameTree part again
      → SameTree (repetition one part) (repetition other again)
