-- The tree that the pieces of a text make (XBD 9.3.8, 9.4.8). The code keeps the groups that are open; the definition cuts
-- the pieces in every way.
use Rattle.std.specs.Prelude.{List, [], ◌∷◌, ◌++◌}
use Rattle.ut_regex.specs.declared.tree.Leaf.{Leaf}
use Rattle.ut_regex.specs.declared.tree.Bounds.{Bounds}
use Rattle.ut_regex.specs.declared.pieces.Piece.{Piece}
use Rattle.ut_regex.specs.declared.pieces.Piece.TheVariants as piece
use Rattle.ut_regex.specs.Tree.{Tree, leaf, line_begin, line_end, empty, group, sequence, alternative, repetition}

mutual
  -- what may be repeated: one byte, a group, or a part with its repetition
  pub data IsPart : List Piece → Tree → Type 0 where
    one_byte : {one : Leaf} → IsPart (piece.One one ∷ []) (leaf one)
    in_group : {inside : List Piece} {re : Tree} → IsSides inside re → IsPart (piece.Open ∷ inside ++ piece.Close ∷ []) (group re)
    repeated : {part : List Piece} {re : Tree} {bounds : Bounds} → IsPart part re → IsPart (part ++ piece.Repeat bounds ∷ []) (repetition bounds re)

  -- a part or an anchor
  pub data IsItem : List Piece → Tree → Type 0 where
    part : {pieces : List Piece} {re : Tree} → IsPart pieces re → IsItem pieces re
    begins : IsItem (piece.Begin ∷ []) line_begin
    ends : IsItem (piece.End ∷ []) line_end

  -- one item or more, in order
  pub data IsRow : List Piece → Tree → Type 0 where
    item : {pieces : List Piece} {re : Tree} → IsItem pieces re → IsRow pieces re
    behind : {front back : List Piece} {first second : Tree} → IsRow front first → IsItem back second → IsRow (front ++ back) (sequence first second)

  -- a side of an alternative: items, or nothing
  pub data IsSide : List Piece → Tree → Type 0 where
    nothing : IsSide [] empty
    row : {pieces : List Piece} {re : Tree} → IsRow pieces re → IsSide pieces re

  -- one side or more, with bars between them
  pub data IsSides : List Piece → Tree → Type 0 where
    side : {pieces : List Piece} {re : Tree} → IsSide pieces re → IsSides pieces re
    either : {front back : List Piece} {first second : Tree} → IsSides front first → IsSide back second
        → IsSides (front ++ piece.Bar ∷ back) (alternative first second)
