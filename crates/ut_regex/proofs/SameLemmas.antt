-- Pieces that are the same make trees that are the same.
use Rattle.std.proofs.Common.{◌≡◌, ◌+◌, ◌*◌, Bool, true, false, List, [], ◌∷◌, max, refl, ap, ap₂, subst}
use Rattle.ut_regex.specs.declared.building.Level.{Level}
use Rattle.ut_regex.specs.declared.building.Parts.{Parts}
use Rattle.ut_regex.specs.declared.building.Parts.TheVariants as parts
use Rattle.ut_regex.specs.declared.pieces.Piece.{Piece}
use Rattle.ut_regex.specs.declared.pieces.Piece.TheVariants as piece
use Rattle.ut_regex.specs.declared.tree.Leaf.TheVariants.{Byte, Any, Among, NotAmong}
use Rattle.ut_regex.specs.declared.tree.Leaf.{Leaf}
use Rattle.ut_regex.specs.declared.tree.Node.{Node}
use Rattle.ut_regex.specs.declared.tree.Node.TheVariants as node
use Rattle.ut_regex.specs.Tree.{Tree, last_tree, trees_before, with_node}
use Rattle.ut_regex.specs.Inner.Building.{Built, start, joined, side_ended, sides_joined, ended, grown, grown_by}
use Rattle.ut_regex.specs.Grammar.{IsSides}
use Rattle.ut_regex.specs.Sizes.{places, nesting, row_place, bar_place, times}
use Rattle.ut_regex.specs.Same.{SameLeaf, same_byte, same_any, same_among, same_not_among, SameTree, same_leaf, same_begin, same_end, same_empty, same_group, same_sequence, same_alternative, same_repetition}
use Rattle.ut_regex.proofs.GrowthLemmas.{sides_built}
use Rattle.ut_regex.proofs.UniqueLemmas.{SamePiece, same_one, same_repeat, same_piece, SamePieces, same_none, same_more}

pub data SameTrees : List Tree → List Tree → Type 0 where
  no_trees : SameTrees [] []
  more_trees : {re other : Tree} {trees others : List Tree} → SameTree re other → SameTrees trees others → SameTrees (re ∷ trees) (other ∷ others)

same_last : {trees others : List Tree} → SameTrees trees others → SameTree (last_tree trees) (last_tree others)
same_last no_trees = same_empty
same_last (more_trees is more) = is

same_before : {trees others : List Tree} → SameTrees trees others → SameTrees (trees_before trees) (trees_before others)
same_before no_trees = no_trees
same_before (more_trees is more) = more

itself_leaf : (one : Leaf) → SameLeaf one one
itself_leaf (Byte byte) = same_byte
itself_leaf Any = same_any
itself_leaf (Among set) = same_among (λ byte h. refl)
itself_leaf (NotAmong set) = same_not_among (λ byte h. refl)

-- one node more
same_node : (one : Node) {trees others : List Tree} → SameTrees trees others → SameTrees (with_node trees one) (with_node others one)
same_node (node.Leaf one) h = more_trees (same_leaf (itself_leaf one)) h
same_node node.Begin h = more_trees same_begin h
same_node node.End h = more_trees same_end h
same_node node.Empty h = more_trees same_empty h
same_node node.Group h = more_trees (same_group (same_last h)) (same_before h)
same_node node.Sequence h = more_trees (same_sequence (same_last (same_before h)) (same_last h)) (same_before (same_before h))
same_node node.Alternative h = more_trees (same_alternative (same_last (same_before h)) (same_last h)) (same_before (same_before h))
same_node (node.Repetition bounds) h = more_trees (same_repetition (refl, refl) (same_last h)) (same_before h)

same_joined : (count : Parts) {trees others : List Tree} → SameTrees trees others → SameTrees (joined count trees) (joined count others)
same_joined parts.Nothing h = h
same_joined parts.One h = h
same_joined parts.More h = same_node node.Sequence h

same_side : (count : Parts) {trees others : List Tree} → SameTrees trees others → SameTrees (side_ended count trees) (side_ended count others)
same_side parts.Nothing h = more_trees same_empty h
same_side parts.One h = h
same_side parts.More h = same_node node.Sequence h

same_sides : (barred : Bool) {trees others : List Tree} → SameTrees trees others → SameTrees (sides_joined barred trees) (sides_joined barred others)
same_sides false h = h
same_sides true h = same_node node.Alternative h

same_ended : (level : Level) {trees others : List Tree} → SameTrees trees others → SameTrees (ended level trees) (ended level others)
same_ended level h = same_sides level.barred (same_side level.parts h)

-- two builders hold the same
record SameBuilt (s t : Built) : Type 0 where
  trees : SameTrees s.trees t.trees
  level : s.level ≡ t.level
  outer : s.outer ≡ t.outer

same_grown : {one other : Piece} → SamePiece one other → (trees others : List Tree) (level : Level) (outer : List Level) → SameTrees trees others
    → SameBuilt (grown one (record { trees = trees; level = level; outer = outer })) (grown other (record { trees = others; level = level; outer = outer }))
same_grown (same_one is) trees others level outer h =
    record { trees = more_trees (same_leaf is) (same_joined level.parts h); level = refl; outer = refl }
same_grown (same_repeat is) trees others level outer h =
    record { trees = more_trees (same_repetition is (same_last h)) (same_before h); level = refl; outer = refl }
same_grown (same_piece {one}) trees others level outer h = with_one one
  where
    with_one : (one : Piece)
        → SameBuilt (grown one (record { trees = trees; level = level; outer = outer })) (grown one (record { trees = others; level = level; outer = outer }))
    with_one (piece.One one) = record { trees = more_trees (same_leaf (itself_leaf one)) (same_joined level.parts h); level = refl; outer = refl }
    with_one piece.Begin = record { trees = more_trees same_begin (same_joined level.parts h); level = refl; outer = refl }
    with_one piece.End = record { trees = more_trees same_end (same_joined level.parts h); level = refl; outer = refl }
    with_one piece.Open = record { trees = same_joined level.parts h; level = refl; outer = refl }
    with_one piece.Close = record { trees = same_node node.Group (same_ended level h); level = refl; outer = refl }
    with_one piece.Bar = record { trees = same_ended level h; level = refl; outer = refl }
    with_one (piece.Repeat bounds) = record { trees = same_node (node.Repetition bounds) h; level = refl; outer = refl }

same_grown_by : {pieces others : List Piece} → SamePieces pieces others → (s t : Built) → SameBuilt s t → SameBuilt (grown_by pieces s) (grown_by others t)
same_grown_by same_none s t h = h
same_grown_by (same_more {one} {other} is more) s t h =
    let there : record { trees = t.trees; level = s.level; outer = s.outer } ≡ t =
    ap₂ (λ level outer. record { trees = t.trees; level = level; outer = outer }) h.level h.outer in
    same_grown_by more (grown one s) (grown other t)
    (subst (λ b. SameBuilt (grown one s) (grown other b)) there (same_grown is s.trees t.trees s.level s.outer h.trees))

-- the trees of the same pieces are the same
pub one_tree : {pieces others : List Piece} {re other : Tree} → SamePieces pieces others → IsSides pieces re → IsSides others other → SameTree re other
one_tree {pieces} {others} {re} {other} same is is_other =
    let h = same_grown_by same start start (record { trees = no_trees; level = refl; outer = refl }) in
    let end = same_ended (grown_by pieces start).level h.trees in
    same_last (subst (λ trees. SameTrees trees (other ∷ [])) (sides_built is)
    (subst (λ trees. SameTrees (ended (grown_by pieces start).level (grown_by pieces start).trees) trees) (sides_built is_other)
    (subst (λ level. SameTrees (ended (grown_by pieces start).level (grown_by pieces start).trees) (ended level (grown_by others start).trees)) h.level end)))

-- and are as large
same_row : {re other : Tree} → SameTree re other → row_place re ≡ row_place other
same_row (same_leaf is) = refl
same_row same_begin = refl
same_row same_end = refl
same_row same_empty = refl
same_row (same_group is) = refl
same_row (same_sequence is more) = refl
same_row (same_alternative is more) = refl
same_row (same_repetition limits is) = refl

same_bar : {re other : Tree} → SameTree re other → bar_place re ≡ bar_place other
same_bar (same_leaf is) = refl
same_bar same_begin = refl
same_bar same_end = refl
same_bar same_empty = refl
same_bar (same_group is) = refl
same_bar (same_sequence is more) = refl
same_bar (same_alternative is more) = refl
same_bar (same_repetition limits is) = refl

pub same_places : {re other : Tree} → SameTree re other → places re ≡ places other
same_places (same_leaf is) = refl
same_places same_begin = refl
same_places same_end = refl
same_places same_empty = refl
same_places (same_group is) = same_places is
same_places (same_sequence is more) = ap₂ (λ a b. a + b) (ap₂ (λ a b. a + b) (same_places is) (same_places more)) (same_row is)
same_places (same_alternative is more) = ap₂ (λ a b. a + b) (ap₂ (λ a b. a + b) (same_places is) (same_places more)) (same_bar is)
same_places (same_repetition limits is) = ap₂ (λ a b. a * b + 1) (same_places is) (ap₂ (λ low high. times low high) limits.0 limits.1)

pub same_nesting : {re other : Tree} → SameTree re other → nesting re ≡ nesting other
same_nesting (same_leaf is) = refl
same_nesting same_begin = refl
same_nesting same_end = refl
same_nesting same_empty = refl
same_nesting (same_group is) = ap (λ n. n + 1) (same_nesting is)
same_nesting (same_sequence is more) = ap₂ (λ a b. max a b) (same_nesting is) (same_nesting more)
same_nesting (same_alternative is more) = ap₂ (λ a b. max a b) (same_nesting is) (same_nesting more)
same_nesting (same_repetition limits is) = same_nesting is
