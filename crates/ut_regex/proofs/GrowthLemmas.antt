-- What the grammar reads, a builder builds.
use Rattle.std.proofs.Common.{◌≡◌, Bool, true, false, List, [], ◌∷◌, ◌++◌, refl, ap, ap₂, ◌∙◌}
use Rattle.ut_regex.specs.declared.building.Level.{Level}
use Rattle.ut_regex.specs.declared.building.Parts.{Parts}
use Rattle.ut_regex.specs.declared.building.Parts.TheVariants as parts
use Rattle.ut_regex.specs.declared.pieces.Piece.{Piece}
use Rattle.ut_regex.specs.declared.pieces.Piece.TheVariants as piece
use Rattle.ut_regex.specs.declared.tree.Node.TheVariants as node
use Rattle.ut_regex.specs.Tree.{Tree, with_node}
use Rattle.ut_regex.specs.Inner.Building.{Built, start, fresh, joined, one_more, side_ended, ended, with_item, with_part, grown, grown_by}
use Rattle.ut_regex.specs.Grammar.{IsPart, one_byte, in_group, repeated, IsItem, part, begins, ends, IsRow, item, behind, IsSide, nothing, row, IsSides, side, either}

pub grown_by-append : (front back : List Piece) (s : Built) → grown_by (front ++ back) s ≡ grown_by back (grown_by front s)
grown_by-append [] back s = refl
grown_by-append (one ∷ front) back s = grown_by-append front back (grown one s)

abbrev at_side : List Tree → Bool → List Level → Built
at_side trees barred outer = record { trees = trees; level = record { barred = barred; parts = parts.Nothing }; outer = outer }

-- where a side has come to behind these pieces, which began with nothing
record Row (pieces : List Piece) (re : Tree) (trees : List Tree) (barred : Bool) (outer : List Level) : Type 0 where
  count : Parts
  all : List Tree
  more : one_more count ≡ parts.More
  joins : joined count all ≡ re ∷ trees
  ends : side_ended count all ≡ re ∷ trees
  grows : grown_by pieces (at_side trees barred outer) ≡ record { trees = all; level = record { barred = barred; parts = count }; outer = outer }

record Side (pieces : List Piece) (re : Tree) (trees : List Tree) (barred : Bool) (outer : List Level) : Type 0 where
  count : Parts
  all : List Tree
  ends : side_ended count all ≡ re ∷ trees
  grows : grown_by pieces (at_side trees barred outer) ≡ record { trees = all; level = record { barred = barred; parts = count }; outer = outer }

-- where a group has come to
record Sides (pieces : List Piece) (re : Tree) (trees : List Tree) (outer : List Level) : Type 0 where
  level : Level
  all : List Tree
  ends : ended level all ≡ re ∷ trees
  grows : grown_by pieces (record { trees = trees; level = fresh; outer = outer }) ≡ record { trees = all; level = level; outer = outer }

mutual
  part_grows : {pieces : List Piece} {re : Tree} → IsPart pieces re → (s : Built) → grown_by pieces s ≡ with_item re s
  part_grows one_byte s = refl
  part_grows (in_group {inside} {re} sides) s =
      let g = sides_grow sides (joined s.level.parts s.trees) (with_part s.level ∷ s.outer) in
      grown_by-append inside (piece.Close ∷ []) (grown piece.Open s)
      ∙ ap (λ t. grown piece.Close t) g.grows
      ∙ ap (λ trees. record { trees = with_node trees node.Group; level = with_part s.level; outer = s.outer }) g.ends
  part_grows (repeated {part} {re} {bounds} is) s =
      grown_by-append part (piece.Repeat bounds ∷ []) s ∙ ap (λ t. grown (piece.Repeat bounds) t) (part_grows is s)

  item_grows : {pieces : List Piece} {re : Tree} → IsItem pieces re → (s : Built) → grown_by pieces s ≡ with_item re s
  item_grows (part is) s = part_grows is s
  item_grows begins s = refl
  item_grows ends s = refl

  row_grows : {pieces : List Piece} {re : Tree} → IsRow pieces re → (trees : List Tree) (barred : Bool) (outer : List Level)
      → Row pieces re trees barred outer
  row_grows (item {pieces} {re} is) trees barred outer =
      record { count = parts.One; all = re ∷ trees; more = refl; joins = refl; ends = refl; grows = item_grows is (at_side trees barred outer) }
  row_grows (behind {front} {back} {first} {second} is last) trees barred outer =
      let f = row_grows is trees barred outer in
      record {
        count = parts.More;
        all = second ∷ first ∷ trees;
        more = refl;
        joins = refl;
        ends = refl;
        grows = grown_by-append front back (at_side trees barred outer)
            ∙ ap (λ t. grown_by back t) f.grows
            ∙ item_grows last (record { trees = f.all; level = record { barred = barred; parts = f.count }; outer = outer })
            ∙ ap₂ (λ before count. record { trees = second ∷ before; level = record { barred = barred; parts = count }; outer = outer }) f.joins f.more;
      }

  side_grows : {pieces : List Piece} {re : Tree} → IsSide pieces re → (trees : List Tree) (barred : Bool) (outer : List Level)
      → Side pieces re trees barred outer
  side_grows nothing trees barred outer = record { count = parts.Nothing; all = trees; ends = refl; grows = refl }
  side_grows (row is) trees barred outer =
      let f = row_grows is trees barred outer in record { count = f.count; all = f.all; ends = f.ends; grows = f.grows }

  sides_grow : {pieces : List Piece} {re : Tree} → IsSides pieces re → (trees : List Tree) (outer : List Level) → Sides pieces re trees outer
  sides_grow (side is) trees outer =
      let f = side_grows is trees false outer in
      record { level = record { barred = false; parts = f.count }; all = f.all; ends = f.ends; grows = f.grows }
  sides_grow (either {front} {back} {first} {second} is last) trees outer =
      let f = sides_grow is trees outer in
      let b = side_grows last (first ∷ trees) true outer in
      record {
        level = record { barred = true; parts = b.count };
        all = b.all;
        ends = ap (λ all. with_node all node.Alternative) b.ends;
        grows = grown_by-append front (piece.Bar ∷ back) (record { trees = trees; level = fresh; outer = outer })
            ∙ ap (λ t. grown_by (piece.Bar ∷ back) t) f.grows
            ∙ ap (λ all. grown_by back (at_side all true outer)) f.ends
            ∙ b.grows;
      }

-- a builder that was given the pieces of a tree has it alone
pub sides_built : {pieces : List Piece} {re : Tree} → IsSides pieces re
    → ended (grown_by pieces start).level (grown_by pieces start).trees ≡ re ∷ []
sides_built is = let f = sides_grow is [] [] in ap (λ t. ended t.level t.trees) f.grows ∙ f.ends
