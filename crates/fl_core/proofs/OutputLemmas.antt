-- What a graph leaves at standard output: the text of its one sink there, and nothing where there is none.
use Rattle.std.proofs.Common.{◌≡◌, ℕ, zero, suc, ◌+◌, ◌≤◌, ◌⊎◌, inl, inr, List, [], ◌∷◌, ◌++◌, Bool, true, false, map, slice_get, Option, Some, refl, ap, sym, subst, ◌∙◌, append-nil, arith}
use Rattle.std.specs.List.{count_by, flat_map}
use Rattle.std.specs.Option.{option_and_then}
use Rattle.std.proofs.lemmas.Bool.{true≢false}
use Rattle.std.proofs.lemmas.Grind.{flat_map-append}
use Rattle.fl_graph.specs.Kinds.{is_output}
use Rattle.fl_graph.specs.declared.graphs.Cell.{Cell}
use Rattle.fl_graph.specs.Valid.{Valid}
use Rattle.fl_graph.specs.declared.graphs.Graph.{Graph}
use Rattle.fl_graph.specs.declared.kinds.NodeKind.{NodeKind}
use Rattle.fl_graph.specs.declared.kinds.NodeKind.TheVariants as kind
use Rattle.fl_graph.specs.declared.kinds.To.TheVariants as to
use Rattle.fl_classes.specs.Flow.{Write, flow, only, outcome, to_output, writes_of}
use Rattle.fl_core.specs.EndLists.{KeepsOthers, Output, own_end, taken_at, taken_by}
use Rattle.fl_classes.specs.Kinds.{is_writer}
use Rattle.fl_core.specs.declared.end_lists.Ends.{Ends}
use Rattle.fl_net.proofs.LawLemmas.{writes_of_the_flow}
use Rattle.fl_core.proofs.RoleLemmas.{counted, is_counted, mark, marked}

some_is : {X : Type 0} (one other : X) → Some one ≡ Some other → one ≡ other
some_is one other is = cc

-- one that passes, or none
pub sought : {Item : Type 0} (test : Item → Bool) (items : List Item)
    → ((place : ℕ) × ((item : Item) × ((slice_get items place ≡ Some item) × (test item ≡ true)))) ⊎ ((place : ℕ) (item : Item) → slice_get items place ≡ Some item → test item ≡ false)
sought test [] = inr (λ place item at. absurd (cc))
sought {Item} test (first ∷ items) = by_test (test first) refl (sought test items)
  where
    none : test first ≡ false → ((place : ℕ) (item : Item) → slice_get items place ≡ Some item → test item ≡ false)
        → (place : ℕ) (item : Item) → slice_get (first ∷ items) place ≡ Some item → test item ≡ false
    none here behind zero item at = ap test (sym (some_is first item at)) ∙ here
    none here behind (suc place) item at = behind place item at

    by_test : (passes : Bool) → test first ≡ passes
        → ((place : ℕ) × ((item : Item) × ((slice_get items place ≡ Some item) × (test item ≡ true)))) ⊎ ((place : ℕ) (item : Item) → slice_get items place ≡ Some item → test item ≡ false)
        → ((place : ℕ) × ((item : Item) × ((slice_get (first ∷ items) place ≡ Some item) × (test item ≡ true)))) ⊎ ((place : ℕ) (item : Item) → slice_get (first ∷ items) place ≡ Some item → test item ≡ false)
    by_test true is behind = inl (zero, (first, (refl, is)))
    by_test false is (inl found) = inl (suc found.0, (found.1.0, (found.1.1.0, found.1.1.1)))
    by_test false is (inr all) = inr (none is all)

-- what a node writes to the output
silent_kind : (it : NodeKind) (ins : List (List ℕ)) → is_output it ≡ false → flat_map to_output (writes_of it ins) ≡ []
silent_kind (kind.Sink to.Output) ins is = absurd (true≢false is)
silent_kind (kind.Sink (to.File path mode)) ins is = refl
silent_kind (kind.TeeFile path mode) ins is = refl
silent_kind other ins is = refl

heard_kind : (it : NodeKind) (ins : List (List ℕ)) → is_output it ≡ true → flat_map to_output (writes_of it ins) ≡ only ins
heard_kind (kind.Sink to.Output) ins is = append-nil (only ins)
heard_kind other ins is = absurd (true≢false (sym is))

out_writes : (it : NodeKind) → is_output it ≡ true → is_writer it ≡ true
out_writes (kind.Sink to.Output) is = refl
out_writes other is = absurd (true≢false (sym is))

-- none writes to it where none is counted
unheard : (cells : List (Cell NodeKind)) → count_by (λ (cell : Cell NodeKind). is_output cell.kind) cells ≤ 0
    → (node : ℕ) (other : Cell NodeKind) → slice_get cells node ≡ Some other → is_output other.kind ≡ false
unheard cells nothing node other there = by_test (is_output other.kind) refl
  where
    by_test : (test : Bool) → is_output other.kind ≡ test → is_output other.kind ≡ false
    by_test true is = let some = is_counted (λ (cell : Cell NodeKind). is_output cell.kind) cells node other there is in absurd (omega (arith, some, nothing))
    by_test false is = is

module _ (values : ℕ → List ℕ) where
  abbrev told : Cell NodeKind → List Write
  told cell = writes_of cell.kind (map values cell.ins)

  heard : (first : Cell NodeKind) (cells : List (Cell NodeKind))
      → flat_map to_output (flat_map told (first ∷ cells)) ≡ flat_map to_output (told first) ++ flat_map to_output (flat_map told cells)
  heard first cells = flat_map-append to_output (told first) (flat_map told cells)

  silent : (cells : List (Cell NodeKind)) → ((node : ℕ) (cell : Cell NodeKind) → slice_get cells node ≡ Some cell → is_output cell.kind ≡ false) → flat_map to_output (flat_map told cells) ≡ []
  silent [] none = refl
  silent (first ∷ cells) none =
      heard first cells ∙ ap (λ (it : List ℕ). it ++ flat_map to_output (flat_map told cells)) (silent_kind first.kind (map values first.ins) (none zero first refl))
      ∙ silent cells (λ node cell. none (suc node) cell)

  -- of nodes one of which at most writes to the output
  heard_once : (cells : List (Cell NodeKind)) → count_by (λ (cell : Cell NodeKind). is_output cell.kind) cells ≤ 1
      → (node : ℕ) (cell : Cell NodeKind) → slice_get cells node ≡ Some cell → is_output cell.kind ≡ true → flat_map to_output (flat_map told cells) ≡ only (map values cell.ins)
  heard_once [] few node cell at is = absurd (cc)
  heard_once (first ∷ cells) few zero cell at is =
      let same : first ≡ cell = some_is first cell at in
      let first_is : is_output first.kind ≡ true = ap (λ (it : Cell NodeKind). is_output it.kind) same ∙ is in
      let one = marked (λ (cell : Cell NodeKind). is_output cell.kind) first first_is in
      let all = counted (λ (cell : Cell NodeKind). is_output cell.kind) first cells in
      let none = λ (node : ℕ) (other : Cell NodeKind) (there : slice_get cells node ≡ Some other). unheard cells (omega (arith, one, all, few)) node other there in
      heard first cells
      ∙ ap (λ (it : List ℕ). it ++ flat_map to_output (flat_map told cells)) (heard_kind first.kind (map values first.ins) first_is)
      ∙ ap (λ (it : List ℕ). only (map values first.ins) ++ it) (silent cells none) ∙ append-nil (only (map values first.ins))
      ∙ ap (λ (it : Cell NodeKind). only (map values it.ins)) same
  heard_once (first ∷ cells) few (suc node) cell at is =
      let all = counted (λ (cell : Cell NodeKind). is_output cell.kind) first cells in
      let behind = heard_once cells (omega (arith, all, few)) node cell at is in
      let some = is_counted (λ (cell : Cell NodeKind). is_output cell.kind) cells node cell at is in
      heard first cells
      ∙ ap (λ (it : List ℕ). it ++ flat_map to_output (flat_map told cells)) (silent_kind first.kind (map values first.ins) (by_test (is_output first.kind) refl some all))
      ∙ behind
    where
      by_test : (test : Bool) → is_output first.kind ≡ test → 1 ≤ count_by (λ (cell : Cell NodeKind). is_output cell.kind) cells
          → count_by (λ (cell : Cell NodeKind). is_output cell.kind) (first ∷ cells) ≡ mark (λ (cell : Cell NodeKind). is_output cell.kind) first + count_by (λ (cell : Cell NodeKind). is_output cell.kind) cells
          → is_output first.kind ≡ false
      by_test true is some all = let one = marked (λ (cell : Cell NodeKind). is_output cell.kind) first is in absurd (omega (arith, one, some, all, few))
      by_test false is some all = is

module _ {R W I O : Type 0} where
  out_end : (it : NodeKind) (node : ℕ) (ends : Ends R W I O) → is_output it ≡ true → own_end it node ends ≡ Some (Output ends.out)
  out_end (kind.Sink to.Output) node ends is = refl
  out_end other node ends is = absurd (true≢false (sym is))

  -- the output grows by what the graph leaves there, as the end of each node that writes does by its text
  module _ (grows : Option (List ℕ) → Option (List ℕ) → List ℕ → Type 0) (nothing : (told : Option (List ℕ)) → grows told told []) where
    pub output_grows : (graph : Graph) → Valid graph.nodes graph.status → (ends ends' : Ends R W I O) → KeepsOthers graph.nodes ends ends'
        → (of_writer : W → Option (List ℕ)) (of_output : O → Option (List ℕ)) (sources : List (List ℕ))
        → ((node : ℕ) (cell : Cell NodeKind) → slice_get graph.nodes node ≡ Some cell → is_writer cell.kind ≡ true
        → grows (taken_at of_writer of_output graph.nodes ends node) (taken_at of_writer of_output graph.nodes ends' node)
        (only (map (flow graph.nodes sources) cell.ins)))
        → grows (of_output ends.out) (of_output ends'.out) (outcome graph sources).output
    output_grows graph valid ends ends' keeps of_writer of_output sources grown = by_node (sought (λ (cell : Cell NodeKind). is_output cell.kind) graph.nodes)
      where
        output_is : (outcome graph sources).output ≡ flat_map to_output (flat_map (told (flow graph.nodes sources)) graph.nodes)
        output_is = ap (λ (list : List Write). flat_map to_output list) (writes_of_the_flow graph.nodes graph.status valid sources)

        at_out : (ends : Ends R W I O) (node : ℕ) (cell : Cell NodeKind) → slice_get graph.nodes node ≡ Some cell → is_output cell.kind ≡ true
            → taken_at of_writer of_output graph.nodes ends node ≡ of_output ends.out
        at_out ends node cell at is =
            ap (taken_by of_writer of_output)
            (ap (option_and_then (λ (cell : Cell NodeKind). own_end cell.kind node ends)) at ∙ out_end cell.kind node ends is)

        by_node : ((node : ℕ) × ((cell : Cell NodeKind) × ((slice_get graph.nodes node ≡ Some cell) × (is_output cell.kind ≡ true))))
            ⊎ ((node : ℕ) (cell : Cell NodeKind) → slice_get graph.nodes node ≡ Some cell → is_output cell.kind ≡ false)
            → grows (of_output ends.out) (of_output ends'.out) (outcome graph sources).output
        by_node (inl found) =
            let node = found.0 in let cell = found.1.0 in let at = found.1.1.0 in let is = found.1.1.1 in
            subst (grows (of_output ends.out) (of_output ends'.out))
            (sym (output_is ∙ heard_once (flow graph.nodes sources) graph.nodes valid.ends.output node cell at is))
            (subst (λ (told : Option (List ℕ)). grows told (of_output ends'.out) (only (map (flow graph.nodes sources) cell.ins))) (at_out ends node cell at is)
            (subst (λ (told : Option (List ℕ)). grows (taken_at of_writer of_output graph.nodes ends node) told (only (map (flow graph.nodes sources) cell.ins))) (at_out ends' node cell at is)
            (grown node cell at (out_writes cell.kind is))))
        by_node (inr none) =
            subst (grows (of_output ends.out) (of_output ends'.out)) (sym (output_is ∙ silent (flow graph.nodes sources) graph.nodes none))
            (subst (λ (told : Option (List ℕ)). grows (of_output ends.out) told []) (ap of_output (sym (keeps.out none))) (nothing (of_output ends.out)))
