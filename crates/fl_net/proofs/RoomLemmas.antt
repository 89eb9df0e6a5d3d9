-- The rooms on a graph's edges.
use Rattle.std.proofs.Common.{◌≡◌, ℕ, ◌+◌, ◌||◌, ◌<◌, ◌≤◌, List, [], ◌∷◌, true, false, if◌then◌else◌, length, Option, None, inl, inr, refl, ap, sym, ◌∙◌, arith, Bool}
use Rattle.std.specs.List.{list_any}
use Rattle.std.proofs.Math.ListN.{get_or-eq_default}
use Rattle.std.proofs.lemmas.Bool.{cases_lt, true≢false, true_from_ne_false}
use Rattle.fl_graph.specs.Net.{has, count, gives, takes}
use Rattle.fl_graph.specs.declared.graphs.Cell.{Cell}
use Rattle.fl_graph.specs.Valid.{Valid}
use Rattle.fl_graph.specs.declared.graphs.StatusRule.{StatusRule}
use Rattle.fl_graph.specs.declared.kinds.NodeKind.{NodeKind}
use Rattle.fl_graph.proofs.ListLemmas.{count-append, count-none}
use Rattle.fl_net.specs.Plans.{HasRooms, is_sole, room_of}
use Rattle.fl_net.specs.Steps.{room_on}

abbrev count_if : Bool → ℕ
count_if test = if test then 1 else 0

module _ (edge : ℕ) where
  sole_counts : (ins : List ℕ) → is_sole edge ins ≡ true → 1 ≤ count edge ins
  sole_counts [] is = absurd (true≢false (sym is))
  sole_counts (other ∷ []) is = let here = ap count_if is in omega (arith, here)
  sole_counts (other ∷ next ∷ others) is = absurd (true≢false (sym is))

  -- an edge that is the one in of a node is taken
  sole_taken : (nodes : List (Cell NodeKind)) → list_any (λ cell. is_sole edge cell.ins) nodes ≡ true → 1 ≤ count edge (takes nodes)
  sole_taken [] is = absurd (true≢false (sym is))
  sole_taken (cell ∷ nodes) is = by_test (is_sole edge cell.ins) refl is (sole_taken nodes)
    where
      all : count edge (takes (cell ∷ nodes)) ≡ count edge cell.ins + count edge (takes nodes)
      all = count-append edge cell.ins (takes nodes)

      by_test : (test : Bool) → is_sole edge cell.ins ≡ test → (test || list_any (λ cell. is_sole edge cell.ins) nodes) ≡ true
          → (list_any (λ cell. is_sole edge cell.ins) nodes ≡ true → 1 ≤ count edge (takes nodes)) → 1 ≤ count edge (takes (cell ∷ nodes))
      by_test true here any later = let some = sole_counts cell.ins here in omega (arith, all, some)
      by_test false here any later = let some = later any in omega (arith, all, some)

module _ (cells : List (Cell NodeKind)) (status : StatusRule) (valid : Valid cells status) where
  -- so it is one of the graph's
  taken_below : (edge : ℕ) → 1 ≤ count edge (takes cells) → edge < length (gives cells)
  taken_below edge some =
      let same = valid.edges.taken edge in
      valid.edges.below edge (true_from_ne_false (has edge (gives cells)) (λ none. let absent = count-none edge (gives cells) none in omega (arith, absent, same, some)))

  -- rooms for the graph's edges are those of all edges
  pub rooms_of_all : (cap : Option ℕ) (rooms : List (Option ℕ)) (edges : ℕ) → edges ≡ length (gives cells) → length rooms ≡ edges
      → ((edge : ℕ) → edge < edges → room_on rooms edge ≡ room_of cells cap edge) → HasRooms cells cap rooms
  rooms_of_all cap rooms edges edges_are all each edge =
      elim (cases_lt edge edges) [
        | inl below ↦ each edge below
        | inr beyond ↦ get_or-eq_default rooms None (omega (arith, all, beyond)) ∙ sym (unbounded (list_any (λ cell. is_sole edge cell.ins) cells) refl beyond)
      ]
    where
      unbounded : (test : Bool) → list_any (λ cell. is_sole edge cell.ins) cells ≡ test → edges ≤ edge → (if test then cap else None) ≡ None
      unbounded true is beyond = let below = taken_below edge (sole_taken edge cells is) in absurd (omega (arith, below, beyond, edges_are))
      unbounded false is beyond = refl

-- as a graph's network has them
pub nodes_rooms : (nodes given : List (Cell NodeKind)) (status : StatusRule) → Valid nodes status → (cap : Option ℕ) (rooms : List (Option ℕ)) (edges : ℕ)
    → given ≡ nodes → edges ≡ length (gives given) → length rooms ≡ edges
    → ((edge : ℕ) → edge < edges → room_on rooms edge ≡ room_of given cap edge) → HasRooms nodes cap rooms
nodes_rooms nodes given status valid cap rooms edges same edges_are all each =
    rooms_of_all nodes status valid cap rooms edges
    (edges_are ∙ ap (λ (list : List (Cell NodeKind)). length (gives list)) same) all
    (λ edge below. each edge below ∙ ap (λ (list : List (Cell NodeKind)). room_of list cap edge) same)
