-- What a builder builds of an expression's pieces, the grammar reads.
use Rattle.std.proofs.Common.{ℕ, ◌≡◌, ◌==◌, Bool, true, false, List, [], ◌∷◌, ◌++◌, length, nat_lt, refl, ap, sym, subst, ◌∙◌, append_assoc, append-nil, arith}
use Rattle.std.proofs.lemmas.Bool.Decides.{Decides-eqb}
use Rattle.ut_regex.specs.declared.building.Level.{Level}
use Rattle.ut_regex.specs.declared.building.Parts.{Parts}
use Rattle.ut_regex.specs.declared.building.Parts.TheVariants as parts
use Rattle.ut_regex.specs.declared.pieces.Before.{Before}
use Rattle.ut_regex.specs.declared.pieces.Piece.{Piece}
use Rattle.ut_regex.specs.declared.pieces.Piece.TheVariants as piece
use Rattle.ut_regex.specs.declared.tree.Node.TheVariants as node
use Rattle.ut_regex.specs.declared.tree.Bounds.{Bounds}
use Rattle.ut_regex.specs.Pieces.{is_part, next, IsPiece}
use Rattle.ut_regex.specs.declared.pieces.Before.TheVariants as before
use Rattle.ut_regex.proofs.NextLemmas.{closes_nested, repeats_part}
use Rattle.ut_regex.proofs.CoreLemmas.{and_first}
use Rattle.ut_regex.specs.Reading.{leaves, may_end, depth_behind, IsExpression, ends, goes_on}
use Rattle.ut_regex.specs.Tree.{Tree, empty, group, sequence, alternative, repetition, leaf, line_begin, line_end, with_node}
use Rattle.ut_regex.specs.Inner.Building.{Built, start, joined, one_more, side_ended, ended, with_part, grown, grown_by}
use Rattle.ut_regex.specs.Grammar.{IsPart, one_byte, in_group, repeated, IsItem, part, begins, IsRow, item, behind, IsSide, nothing, row, IsSides, side, either}
use Rattle.ut_regex.specs.Grammar as grammar

-- an item, which may be repeated or not
abbrev Item : Bool → List Piece → Tree → Type 0
Item true pieces re = IsPart pieces re
Item false pieces re = IsItem pieces re

item_of : (may : Bool) {pieces : List Piece} {re : Tree} → Item may pieces re → IsItem pieces re
item_of true is = part is
item_of false is = is

-- the pieces of a side that goes on, with its trees in front of those below
abbrev Half : Bool → List Piece → Parts → List Tree → List Tree → Type 0
Half may pieces parts.Nothing trees below = (pieces ≡ []) × (trees ≡ below) × (may ≡ false)
Half may pieces parts.One trees below = (re : Tree) × (trees ≡ re ∷ below) × Item may pieces re
Half may pieces parts.More trees below =
    (front : List Piece) × (back : List Piece) × (first : Tree) × (second : Tree)
    × (pieces ≡ front ++ back) × (trees ≡ second ∷ first ∷ below) × IsRow front first × Item may back second

-- the pieces of a group that goes on
abbrev Inside : Bool → List Piece → Bool → Parts → List Tree → List Tree → Type 0
Inside may pieces false count trees below = Half may pieces count trees below
Inside may pieces true count trees below =
    (front : List Piece) × (back : List Piece) × (re : Tree) × (pieces ≡ front ++ piece.Bar ∷ back) × IsSides front re × Half may back count trees (re ∷ below)

-- the pieces of an expression that goes on, with the groups that are open
abbrev Spelled : Bool → List Piece → Level → List Level → List Tree → Type 0
Spelled may done level [] trees = Inside may done level.barred level.parts trees []
Spelled may done level (outer ∷ levels) trees =
    (front : List Piece) × (pieces : List Piece) × (below : List Tree)
    × (done ≡ front ++ piece.Open ∷ pieces) × Inside may pieces level.barred level.parts trees below
    × ((before : Bool) × (held : Level) × (there : List Tree) × (outer ≡ with_part held) × (below ≡ joined held.parts there)
    × Spelled before front held levels there)

-- a side ends
half_ends : (may : Bool) (pieces : List Piece) (count : Parts) (trees below : List Tree) → Half may pieces count trees below
    → (re : Tree) × IsSide pieces re × (side_ended count trees ≡ re ∷ below)
half_ends may pieces parts.Nothing trees below (none, all, _) =
    (empty, subst (λ p. IsSide p empty) (sym none) nothing, ap (λ t. empty ∷ t) all)
half_ends may pieces parts.One trees below (re, all, is) = (re, row (item (item_of may is)), all)
half_ends may pieces parts.More trees below (front, back, first, second, cut, all, is, last) = (
  sequence first second,
  subst (λ p. IsSide p (sequence first second)) (sym cut) (row (behind is (item_of may last))),
  ap (λ t. with_node t node.Sequence) all,
)

-- the sides end
inside_ends : (may : Bool) (pieces : List Piece) (barred : Bool) (count : Parts) (trees below : List Tree)
    → Inside may pieces barred count trees below
    → (re : Tree) × IsSides pieces re × (ended (record { barred = barred; parts = count }) trees ≡ re ∷ below)
inside_ends may pieces false count trees below is =
    let h = half_ends may pieces count trees below is in (h.0, side h.1, h.2)
inside_ends may pieces true count trees below (front, back, re, cut, sides, is) =
    let h = half_ends may back count trees (re ∷ below) is in (
      alternative re h.0,
      subst (λ p. IsSides p (alternative re h.0)) (sym cut) (either sides h.1),
      ap (λ t. with_node t node.Alternative) h.2,
    )

-- one item more
half_item : (may : Bool) (pieces : List Piece) (count : Parts) (trees below : List Tree) → Half may pieces count trees below
    → (again : Bool) (one : List Piece) (re : Tree) → Item again one re
    → Half again (pieces ++ one) (one_more count) (re ∷ joined count trees) below
half_item may pieces parts.Nothing trees below (none, all, _) again one re is =
    (re, ap (λ t. re ∷ t) all, subst (λ p. Item again (p ++ one) re) (sym none) is)
half_item may pieces parts.One trees below (first, all, is_first) again one re is =
    (pieces, one, first, re, refl, ap (λ t. re ∷ t) all, item (item_of may is_first), is)
half_item may pieces parts.More trees below (front, back, first, second, cut, all, is_first, last) again one re is = (
  pieces,
  one,
  sequence first second,
  re,
  refl,
  ap (λ t. re ∷ with_node t node.Sequence) all,
  subst (λ p. IsRow p (sequence first second)) (sym cut) (behind is_first (item_of may last)),
  is,
)

inside_item : (may : Bool) (pieces : List Piece) (barred : Bool) (count : Parts) (trees below : List Tree)
    → (again : Bool) (one : List Piece) (re : Tree) → Item again one re → Inside may pieces barred count trees below
    → Inside again (pieces ++ one) barred (one_more count) (re ∷ joined count trees) below
inside_item may pieces false count trees below again one re is h = half_item may pieces count trees below h again one re is
inside_item may pieces true count trees below again one re is (front, back, first, cut, sides, h) = (
  front,
  back ++ one,
  first,
  ap (λ p. p ++ one) cut ∙ append_assoc front (piece.Bar ∷ back) one,
  sides,
  half_item may back count trees (first ∷ below) h again one re is,
)

-- the last part is repeated
half_repeat : (bounds : Bounds) (pieces : List Piece) (count : Parts) (trees below : List Tree) → Half true pieces count trees below
    → Half true (pieces ++ piece.Repeat bounds ∷ []) count (with_node trees (node.Repetition bounds)) below
half_repeat bounds pieces parts.Nothing trees below (none, all, not_may) = absurd (cc)
half_repeat bounds pieces parts.One trees below (re, all, is) =
    (repetition bounds re, ap (λ t. with_node t (node.Repetition bounds)) all, repeated is)
half_repeat bounds pieces parts.More trees below (front, back, first, second, cut, all, is, last) = (
  front,
  back ++ piece.Repeat bounds ∷ [],
  first,
  repetition bounds second,
  ap (λ p. p ++ piece.Repeat bounds ∷ []) cut ∙ append_assoc front back (piece.Repeat bounds ∷ []),
  ap (λ t. with_node t (node.Repetition bounds)) all,
  is,
  repeated last,
)

inside_repeat : (bounds : Bounds) (pieces : List Piece) (barred : Bool) (count : Parts) (trees below : List Tree)
    → Inside true pieces barred count trees below
    → Inside true (pieces ++ piece.Repeat bounds ∷ []) barred count (with_node trees (node.Repetition bounds)) below
inside_repeat bounds pieces false count trees below h = half_repeat bounds pieces count trees below h
inside_repeat bounds pieces true count trees below (front, back, first, cut, sides, h) = (
  front,
  back ++ piece.Repeat bounds ∷ [],
  first,
  ap (λ p. p ++ piece.Repeat bounds ∷ []) cut ∙ append_assoc front (piece.Bar ∷ back) (piece.Repeat bounds ∷ []),
  sides,
  half_repeat bounds back count trees (first ∷ below) h,
)

-- a side ends and another begins
inside_bar : (may : Bool) (pieces : List Piece) (barred : Bool) (count : Parts) (trees below : List Tree)
    → Inside may pieces barred count trees below
    → Inside false (pieces ++ piece.Bar ∷ []) true parts.Nothing (ended (record { barred = barred; parts = count }) trees) below
inside_bar may pieces barred count trees below h =
    let e = inside_ends may pieces barred count trees below h in (pieces, [], e.0, refl, e.1, (refl, e.2, refl))

-- what is done in the innermost group
spelled_on : (may again : Bool) (done more : List Piece) (level level_on : Level) (outer : List Level) (trees trees_on : List Tree)
    → ((pieces : List Piece) (below : List Tree) → Inside may pieces level.barred level.parts trees below
    → Inside again (pieces ++ more) level_on.barred level_on.parts trees_on below)
    → Spelled may done level outer trees → Spelled again (done ++ more) level_on outer trees_on
spelled_on may again done more level level_on [] trees trees_on on h = on done [] h
spelled_on may again done more level level_on (held ∷ outer) trees trees_on on (front, pieces, below, cut, h, around) =
    (front, pieces ++ more, below, ap (λ p. p ++ more) cut ∙ append_assoc front (piece.Open ∷ pieces) more, on pieces below h, around)

spelled_item : (may again : Bool) (done one : List Piece) (level : Level) (outer : List Level) (trees : List Tree) (re : Tree)
    → Item again one re → Spelled may done level outer trees
    → Spelled again (done ++ one) (with_part level) outer (re ∷ joined level.parts trees)
spelled_item may again done one level outer trees re is h =
    spelled_on may again done one level (with_part level) outer trees (re ∷ joined level.parts trees)
    (λ pieces below. inside_item may pieces level.barred level.parts trees below again one re is) h

-- a group ends
spelled_close : (may : Bool) (done : List Piece) (level held : Level) (outer : List Level) (trees : List Tree)
    → Spelled may done level (held ∷ outer) trees
    → Spelled true (done ++ piece.Close ∷ []) held outer (with_node (ended level trees) node.Group)
spelled_close may done level held outer trees (front, pieces, below, cut, h, (before, at, there, is_held, is_below, around)) =
    let e = inside_ends may pieces level.barred level.parts trees below h in
    let P : List Piece → Level → List Tree → Type 0 = λ all now left. Spelled true all now outer left in
    let whole : done ++ piece.Close ∷ [] ≡ front ++ (piece.Open ∷ pieces ++ piece.Close ∷ []) =
    ap (λ p. p ++ piece.Close ∷ []) cut ∙ append_assoc front (piece.Open ∷ pieces) (piece.Close ∷ []) in
    let made : with_node (ended level trees) node.Group ≡ group e.0 ∷ joined at.parts there =
    ap (λ t. with_node t node.Group) e.2 ∙ ap (λ t. group e.0 ∷ t) is_below in
    subst (λ all. P all held (with_node (ended level trees) node.Group)) (sym whole)
    (subst (λ now. P (front ++ (piece.Open ∷ pieces ++ piece.Close ∷ [])) now (with_node (ended level trees) node.Group)) (sym is_held)
    (subst (λ left. P (front ++ (piece.Open ∷ pieces ++ piece.Close ∷ [])) (with_part at) left) (sym made)
    (spelled_item before true front (piece.Open ∷ pieces ++ piece.Close ∷ []) at outer there (group e.0) (in_group e.1) around)))

-- one piece more is spelled by what a builder makes of it
piece_spelled : (basic : Bool) (last : Before) (text rest : List ℕ) (one : Piece) (done : List Piece) (level : Level) (outer : List Level) (trees : List Tree)
    → IsPiece basic (next basic last (nat_lt 0 (length outer)) text) one rest → Spelled (is_part last) done level outer trees
    → (let s : Built = record { trees = trees; level = level; outer = outer } in
    Spelled (is_part (leaves one)) (done ++ one ∷ []) (grown one s).level (grown one s).outer (grown one s).trees
    × (length (grown one s).outer ≡ depth_behind (length outer) one))
piece_spelled basic last text rest (piece.One one) done level outer trees is h =
    (spelled_item (is_part last) true done (piece.One one ∷ []) level outer trees (leaf one) one_byte h, refl)
piece_spelled basic last text rest piece.Begin done level outer trees is h =
    (spelled_item (is_part last) false done (piece.Begin ∷ []) level outer trees line_begin begins h, refl)
piece_spelled basic last text rest piece.End done level outer trees is h =
    (spelled_item (is_part last) false done (piece.End ∷ []) level outer trees line_end grammar.ends h, refl)
piece_spelled basic last text rest piece.Open done level outer trees is h =
    ((done, [], joined level.parts trees, refl, (refl, refl, refl), (is_part last, level, trees, refl, refl, h)), omega arith)
piece_spelled basic last text rest piece.Close done level [] trees is h = absurd (cc (closes_nested basic last (nat_lt 0 0) text rest is))
piece_spelled basic last text rest piece.Close done level (held ∷ outer) trees is h =
    (spelled_close (is_part last) done level held outer trees h, omega arith)
piece_spelled basic last text rest piece.Bar done level outer trees is h = (
  spelled_on (is_part last) false done (piece.Bar ∷ []) level (record { barred = true; parts = parts.Nothing }) outer trees (ended level trees)
      (λ pieces below. inside_bar (is_part last) pieces level.barred level.parts trees below) h,
  refl,
)
piece_spelled basic last text rest (piece.Repeat bounds) done level outer trees is h = (
  spelled_on true true done (piece.Repeat bounds ∷ []) level level outer trees (with_node trees (node.Repetition bounds))
      (λ pieces below. inside_repeat bounds pieces level.barred level.parts trees below)
      (subst (λ may. Spelled may done level outer trees) (repeats_part basic last (nat_lt 0 (length outer)) text rest bounds is) h),
  refl,
)

-- where an expression may end no group is open
ends_spelled : (last : Before) (depth : ℕ) → may_end last depth ≡ true
    → (may : Bool) (done : List Piece) (level : Level) (outer : List Level) (trees : List Tree) → Spelled may done level outer trees → length outer ≡ depth
    → (re : Tree) × IsSides (done ++ []) re × (ended level trees ≡ re ∷ [])
ends_spelled last depth may_end may done level [] trees h count =
    let e = inside_ends may done level.barred level.parts trees [] h in (e.0, subst (λ p. IsSides p e.0) (sym (append-nil done)) e.1, e.2)
ends_spelled last depth may_end may done level (held ∷ outer) trees h count =
    absurd (omega (arith, (Decides-eqb depth 0).0 (and_first (depth == 0) _ may_end), count))

pub pieces_spelled : (basic : Bool) {last : Before} {depth : ℕ} {text : List ℕ} {pieces : List Piece} → IsExpression basic last depth text pieces
    → (done : List Piece) (s : Built) → Spelled (is_part last) done s.level s.outer s.trees → length s.outer ≡ depth
    → (re : Tree) × IsSides (done ++ pieces) re × (ended (grown_by pieces s).level (grown_by pieces s).trees ≡ re ∷ [])
pieces_spelled basic (ends {last} {depth} may) done s h count = ends_spelled last depth may (is_part last) done s.level s.outer s.trees h count
pieces_spelled basic (goes_on {last} {depth} {text} {rest} {one} {pieces} is more) done s h count =
    let here = piece_spelled basic last text rest one done s.level s.outer s.trees
    (subst (λ d. IsPiece basic (next basic last (nat_lt 0 d) text) one rest) (sym count) is) h in
    let r = pieces_spelled basic more (done ++ one ∷ []) (grown one s) here.0 (here.1 ∙ ap (λ d. depth_behind d one) count) in
    (r.0, subst (λ p. IsSides p r.0) (append_assoc done (one ∷ []) pieces) r.1, r.2)

-- the pieces of an expression are those of one tree, which a builder makes of them
pub expression_spelled : (basic : Bool) {text : List ℕ} {pieces : List Piece} → IsExpression basic before.Start 0 text pieces
    → (re : Tree) × IsSides pieces re × (ended (grown_by pieces start).level (grown_by pieces start).trees ≡ re ∷ [])
expression_spelled basic is = pieces_spelled basic is [] start (refl, refl, refl) refl
