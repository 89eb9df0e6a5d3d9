-- What went over the edges of a graph: each giver lies at the number of its edge once, and is settled with the taker of that edge.
use Rattle.std.proofs.Common.{◌≡◌, ℕ, zero, suc, ◌+◌, ◌<◌, ◌≤◌, ◌&&◌, List, [], ◌∷◌, ◌++◌, Bool, true, false, if◌then◌else◌, map, length, get_or, drop, Option, Some, None, is_some, refl, ap, sym, subst, ◌∙◌, arith, length-append}
use Rattle.std.specs.Global.{Vec}
use Rattle.std.specs.List.{flat_map, list_all}
use Rattle.std.proofs.lemmas.Bool.{and_from, and_parts, true_from_ne_false}
use Rattle.std.proofs.lemmas.List.{length-map, map-append}
use Rattle.fl_graph.specs.Net.{count, gives, has, takes}
use Rattle.fl_graph.specs.Runs.{are_closed, is_clean}
use Rattle.fl_graph.specs.Valid.{Valid}
use Rattle.fl_graph.specs.declared.graphs.Cell.{Cell}
use Rattle.fl_graph.specs.declared.graphs.StatusRule.{StatusRule}
use Rattle.fl_graph.specs.declared.kinds.NodeKind.{NodeKind}
use Rattle.fl_graph.specs.declared.pieces.Piece.{Piece}
use Rattle.fl_graph.proofs.CheckLemmas.{each_number}
use Rattle.fl_graph.proofs.ListLemmas.{count-none, holds-has}
use Rattle.fl_nodes.specs.Stashes.{CanSettleAll, LayBefore, Lie, half_of, has_each, lying, without_all}
use Rattle.fl_nodes.proofs.DealLemmas.{counted-each, has_each-append}
use Rattle.fl_relay.specs.declared.edges.EdgeGiver.{EdgeGiver}
use Rattle.fl_relay.specs.declared.edges.EdgeTaker.{EdgeTaker}
use Rattle.fl_relay.specs.Edges.{EdgeId, gives_over, takes_over, put_on, taken_from}
use Rattle.fl_threads.specs.Threads.{EachOf}
use Rattle.fl_edges.specs.Settled.{AreAtEnds, AreBack, AreSettled, CanSettleEach, IsBare, all_of, put_all}
use Rattle.fl_edges.proofs.EachLemmas.{each-first, each-map, each-none, each-rest, parts-first}
use Rattle.fl_edges.proofs.PutLemmas.{lies-there, lies-told, put_all-lies, put_all-named}

-- two lists that are each of two parts, where the first parts are as long
split-front : {A : Type 0} (one other back last : List A) → length one ≡ length other → one ++ back ≡ other ++ last → (one ≡ other) × (back ≡ last)
split-front [] [] back last size same = (refl, same)
split-front [] (second ∷ other) back last size same = absurd (omega (arith, size))
split-front (first ∷ one) [] back last size same = absurd (omega (arith, size))
split-front {A} (first ∷ one) (second ∷ other) back last size same =
    let rest : one ++ back ≡ other ++ last = cc in
    let here : first ≡ second = cc in
    let parts = split-front one other back last (omega (arith, size)) rest in
    (ap (λ (it : A). it ∷ one) here ∙ ap (λ (it : List A). second ∷ it) parts.0, parts.1)

pub all-append : (test : ℕ → Bool) (front back : List ℕ) → list_all test front ≡ true → list_all test back ≡ true → list_all test (front ++ back) ≡ true
all-append test [] back first second = second
all-append test (edge ∷ front) back first second =
    let parts = and_parts (test edge) (list_all test front) first in
    and_from (test edge) (list_all test (front ++ back)) parts.0 (all-append test front back parts.1 second)

-- what is told of each node's halves is told of those of all nodes, and the other way round
module _ {Half Told : Type 0} (tell : Half → Told) (told : ℕ → Told) (part : Cell NodeKind → List ℕ) where
  abbrev TellAlike : Cell NodeKind → Vec Half → Type 0
  TellAlike cell own = map tell own.items ≡ map told (part cell)

  all-told : (cells : List (Cell NodeKind)) (owns : List (Vec Half)) → EachOf TellAlike cells owns → map tell (all_of owns) ≡ map told (flat_map part cells)
  all-told [] [] each = refl
  all-told [] (own ∷ owns) each = absurd each
  all-told (cell ∷ cells) [] each = absurd each
  all-told (cell ∷ cells) (own ∷ owns) each =
      map-append tell own.items (all_of owns)
      ∙ ap (λ (it : List Told). it ++ map tell (all_of owns)) each.0
      ∙ ap (λ (it : List Told). map told (part cell) ++ it) (all-told cells owns each.1)
      ∙ sym (map-append told (part cell) (flat_map part cells))

  each-told : (cells : List (Cell NodeKind)) (owns : List (Vec Half)) → EachOf (λ cell own. length own.items ≡ length (part cell)) cells owns
      → map tell (all_of owns) ≡ map told (flat_map part cells) → EachOf TellAlike cells owns
  each-told [] [] counted same = tt
  each-told [] (own ∷ owns) counted same = absurd counted
  each-told (cell ∷ cells) [] counted same = absurd counted
  each-told (cell ∷ cells) (own ∷ owns) counted same =
      let parts = split-front (map tell own.items) (map told (part cell)) (map tell (all_of owns)) (map told (flat_map part cells))
      (length-map own.items tell ∙ counted.0 ∙ sym (length-map (part cell) told))
      (sym (map-append tell own.items (all_of owns)) ∙ same ∙ map-append told (part cell) (flat_map part cells)) in
      (parts.0, each-told cells owns counted.1 parts.1)

all-counted : {Half : Type 0} (part : Cell NodeKind → List ℕ) (cells : List (Cell NodeKind)) (owns : List (Vec Half)) → EachOf (λ cell own. length own.items ≡ length (part cell)) cells owns
    → length (all_of owns) ≡ length (flat_map part cells)
all-counted part [] [] counted = refl
all-counted part [] (own ∷ owns) counted = absurd counted
all-counted part (cell ∷ cells) [] counted = absurd counted
all-counted part (cell ∷ cells) (own ∷ owns) counted =
    let front = length-append own.items (all_of owns) in
    let back = length-append (part cell) (flat_map part cells) in
    let here = counted.0 in
    let rest = all-counted part cells owns counted.1 in
    omega (arith, front, back, here, rest)

abbrev carried : Option EdgeGiver → List Piece
carried None = []
carried (Some giver) = put_on giver

module _ (cells : List (Cell NodeKind)) (status : StatusRule) (valid : Valid cells status) (givers : List (Vec EdgeGiver)) (takers : List (Vec EdgeTaker))
    (back : AreBack cells givers takers) (stash : List (Option EdgeGiver)) (size : length stash ≡ length (gives cells)) (bare : IsBare stash) where
  abbrev final : List (Option EdgeGiver)
  final = put_all stash (gives cells) (all_of givers)

  -- what was put on each edge
  abbrev pub pieces : ℕ → List Piece
  pieces edge = carried (half_of final edge)

  pub counted : EachOf (λ cell own. length own.items ≡ length cell.outs) cells givers
  counted =
      each-map (λ (cell : Cell NodeKind) (own : Vec EdgeGiver). map gives_over own.items ≡ map back.ids cell.outs) (λ (cell : Cell NodeKind) (own : Vec EdgeGiver). length own.items ≡ length cell.outs)
      (λ cell own same. sym (length-map own.items gives_over) ∙ ap length same ∙ length-map cell.outs back.ids) cells givers back.gives

  lies : map (half_of final) (gives cells) ≡ map Some (all_of givers)
  lies =
      put_all-lies stash (gives cells) (all_of givers) (all-counted (λ (cell : Cell NodeKind). cell.outs) cells givers counted) valid.edges.once
      (λ edge there. subst (λ (count : ℕ). edge < count) (sym size) (valid.edges.below edge there))

  none-there : (edge : ℕ) (giver : EdgeGiver) → half_of stash edge ≡ Some giver → gives_over giver ≡ back.ids edge
  none-there edge giver there = let none : half_of stash edge ≡ None = bare edge in absurd (cc)

  lie : Lie gives_over put_on back.ids pieces final
  lie edge giver there = (
    put_all-named gives_over back.ids stash (gives cells) (all_of givers) (all-told gives_over back.ids (λ (cell : Cell NodeKind). cell.outs) cells givers back.gives) none-there edge giver there,
    sym (ap carried there),
  )

  pub can : CanSettleEach final cells takers
  can = record { ids = back.ids; pieces = pieces; lie = lie; each = back.takes }

  -- a giver lies at the number of each edge that is taken
  pub all_there : has_each final (takes cells) ≡ true
  all_there = counted-each final (takes cells) (λ edge. by_has edge (has edge (gives cells)) refl)
    where
      by_has : (edge : ℕ) (there : Bool) → has edge (gives cells) ≡ there → count edge (takes cells) ≤ lying final edge
      by_has edge true is =
          let one : lying final edge ≡ 1 = ap (λ (it : Bool). if it then 1 else 0) (lies-there final (gives cells) (all_of givers) edge lies is) in
          let same = valid.edges.taken edge in
          let once = valid.edges.once edge in
          omega (arith, one, same, once)
      by_has edge false is =
          let none = count-none edge (gives cells) is in
          let same = valid.edges.taken edge in
          omega (arith, none, same)

  pub are_settled : ((ids : ℕ → EdgeId) (over : ℕ → List Piece) → Lie gives_over put_on ids over final → EachOf (λ cell own. map taken_from own.items ≡ map over cell.ins) cells takers)
      → ((ids : ℕ → EdgeId) (over : ℕ → List Piece) → Lie gives_over put_on ids over final → list_all (λ edge. is_clean (over edge)) (takes cells) ≡ true) → AreSettled cells givers takers
  are_settled taken cleans = record {
    pieces = pieces;
    clean = λ edge within. holds-has (λ (edge : ℕ). is_clean (pieces edge)) edge (takes cells) (cleans back.ids pieces lie) (taken_there edge within);
    put = each-told put_on pieces (λ (cell : Cell NodeKind). cell.outs) cells givers counted
        (sym (lies-told put_on carried (λ giver. refl) final (gives cells) (all_of givers) lies));
    taken = taken back.ids pieces lie;
  }
    where
      taken_there : (edge : ℕ) → edge < length (gives cells) → has edge (takes cells) ≡ true
      taken_there edge within =
          true_from_ne_false (has edge (takes cells)) (λ none.
          let absent = count-none edge (takes cells) none in
          let once = (each_number cells status valid edge within).1 in
          absurd (omega (arith, absent, once)))

-- along the nodes: the takers that are left are those of the nodes from this place on
module _ (nodes : List (Cell NodeKind)) (node : ℕ) (cell : Cell NodeKind) (within : node < length nodes) (same : cell ≡ get_or nodes node cell) where
  ins-first : takes (drop node nodes) ≡ cell.ins ++ takes (drop (node + 1) nodes)
  ins-first = parts-first (λ (it : Cell NodeKind). it.ins) nodes node cell within same

  pub there-first : (stash : List (Option EdgeGiver)) → has_each stash (takes (drop node nodes)) ≡ true → has_each stash cell.ins ≡ true
  there-first stash all =
      (and_parts (has_each stash cell.ins) (has_each (without_all stash cell.ins) (takes (drop (node + 1) nodes)))
      (sym (has_each-append stash cell.ins (takes (drop (node + 1) nodes))) ∙ ap (has_each stash) (sym ins-first) ∙ all)).0

  pub there-rest : (stash now : List (Option EdgeGiver)) → now ≡ without_all stash cell.ins → has_each stash (takes (drop node nodes)) ≡ true → has_each now (takes (drop (node + 1) nodes)) ≡ true
  there-rest stash now gone all =
      ap (λ (it : List (Option EdgeGiver)). has_each it (takes (drop (node + 1) nodes))) gone
      ∙ (and_parts (has_each stash cell.ins) (has_each (without_all stash cell.ins) (takes (drop (node + 1) nodes)))
      (sym (has_each-append stash cell.ins (takes (drop (node + 1) nodes))) ∙ ap (has_each stash) (sym ins-first) ∙ all)).1

  pub clean-first : (test : ℕ → Bool) → list_all test cell.ins ≡ true → list_all test (takes (drop (node + 1) nodes)) ≡ true → list_all test (takes (drop node nodes)) ≡ true
  clean-first test here rest = ap (list_all test) ins-first ∙ all-append test cell.ins (takes (drop (node + 1) nodes)) here rest

  module _ (own : Vec EdgeTaker) (rest left : List (Vec EdgeTaker)) (is : left ≡ own ∷ rest) where
    pub can-first : (stash : List (Option EdgeGiver)) → CanSettleEach stash (drop node nodes) left → CanSettleAll stash cell.ins own.items
    can-first stash can = record {
      ids = can.ids;
      pieces = can.pieces;
      lie = can.lie;
      same = each-first (λ (cell : Cell NodeKind) (own : Vec EdgeTaker). map takes_over own.items ≡ map can.ids cell.ins) nodes node cell own rest left is within same can.each;
    }

    pub can-rest : (stash now : List (Option EdgeGiver)) → LayBefore stash now → CanSettleEach stash (drop node nodes) left → CanSettleEach now (drop (node + 1) nodes) rest
    can-rest stash now kept can = record {
      ids = can.ids;
      pieces = can.pieces;
      lie = λ edge giver there. can.lie edge giver (kept edge giver there);
      each = each-rest (λ (cell : Cell NodeKind) (own : Vec EdgeTaker). map takes_over own.items ≡ map can.ids cell.ins) nodes node cell own rest left is within can.each;
    }

    pub ends-first : AreAtEnds left → (list_all (λ taker. are_closed (taken_from taker)) own.items ≡ true) × AreAtEnds rest
    ends-first ends = subst AreAtEnds is ends

-- where no taker is left, no node is
module _ (nodes : List (Cell NodeKind)) (node : ℕ) (left : List (Vec EdgeTaker)) (none : left ≡ []) (stash : List (Option EdgeGiver)) (can : CanSettleEach stash (drop node nodes) left) where
  no-nodes : drop node nodes ≡ []
  no-nodes = each-none (λ (cell : Cell NodeKind) (own : Vec EdgeTaker). map takes_over own.items ≡ map can.ids cell.ins) (drop node nodes) left none can.each

module _ (pieces : ℕ → List Piece) (nodes : List (Cell NodeKind)) (node : ℕ) (left : List (Vec EdgeTaker)) (none : left ≡ []) (stash : List (Option EdgeGiver))
    (can : CanSettleEach stash (drop node nodes) left) where
  pub none-taken : EachOf (λ cell own. map taken_from own.items ≡ map pieces cell.ins) (drop node nodes) left
  none-taken =
      subst (λ (cells : List (Cell NodeKind)). EachOf (λ (cell : Cell NodeKind) (own : Vec EdgeTaker). map taken_from own.items ≡ map pieces cell.ins) cells left) (sym (no-nodes nodes node left none stash can))
      (subst (λ (owns : List (Vec EdgeTaker)). EachOf (λ (cell : Cell NodeKind) (own : Vec EdgeTaker). map taken_from own.items ≡ map pieces cell.ins) [] owns) (sym none) tt)

pub none-clean : (test : ℕ → Bool) (nodes : List (Cell NodeKind)) (node : ℕ) (left : List (Vec EdgeTaker)) → left ≡ [] → (stash : List (Option EdgeGiver)) → CanSettleEach stash (drop node nodes) left
    → list_all test (takes (drop node nodes)) ≡ true
none-clean test nodes node left none stash can = ap (λ (cells : List (Cell NodeKind)). list_all test (takes cells)) (no-nodes nodes node left none stash can)
