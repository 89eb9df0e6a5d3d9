-- Texts on edges from outside.
use Rattle.std.proofs.Common.{◌≡◌, ℕ, ◌+◌, ◌-◌, ◌<◌, List, [], ◌∷◌, ◌++◌, Bool, true, false, not, ◌||◌, min, length, take, drop, get_or, ◌≤◌, slice_get, slice_set, Some, inl, inr, refl, ap, sym, subst, ◌∙◌, append_assoc, append-nil, arith}
use Rattle.std.specs.List.{list_all}
use Rattle.std.proofs.lemmas.Bool.{cases_lt, ne_eqb, or_parts}
use Rattle.fl_graph.specs.declared.pieces.TheConstants.{MAX_PIECE}
use Rattle.std.proofs.lemmas.List.{length-take-le, get_or-set_same, get_or-set_other, set-get_or, take_rest, take-append-drop}
use Rattle.std.proofs.lemmas.Option.{slice_get_read, slice_get_within}
use Rattle.fl_graph.specs.Net.{gives}
use Rattle.fl_graph.specs.declared.graphs.Cell.{Cell}
use Rattle.fl_graph.specs.declared.kinds.NodeKind.{NodeKind}
use Rattle.fl_classes.specs.Flow.{is_source}
use Rattle.fl_graph.specs.Machines.{closes}
use Rattle.fl_graph.specs.Runs.{text_of, has_end, is_end, are_closed, is_clean}
use Rattle.fl_graph.specs.declared.pieces.Piece.{Piece}
use Rattle.fl_graph.specs.declared.pieces.Piece.TheVariants as piece
use Rattle.fl_net.specs.Inputs.{AreWhole, IsLoaded}
use Rattle.fl_net.specs.Plans.{outer_edge}
use Rattle.fl_net.specs.Steps.{has_bytes, is_plain, waiting_on}
use Rattle.fl_graph.proofs.PieceLemmas.{is_clean-add, text_of-append}
use Rattle.fl_net.proofs.ReachLemmas.{all-more}
use Rattle.fl_net.proofs.TurnLemmas.{wire_at}

-- the pieces, which nothing closes, and what is left are the text
abbrev pub AreFront : List Piece → List ℕ → List ℕ → Type 0
AreFront pieces left text = (text_of pieces ++ left ≡ text) × (are_closed pieces ≡ false) × (list_all is_plain pieces ≡ true) × (list_all has_bytes pieces ≡ true)

unclosed-more : (pieces : List Piece) (bytes : List ℕ) → are_closed pieces ≡ false → are_closed (pieces ++ piece.Bytes bytes ∷ []) ≡ false
unclosed-more [] bytes unclosed = refl
unclosed-more (first ∷ pieces) bytes unclosed =
    let parts = or_parts (closes first) (are_closed pieces) unclosed in
    ap (λ (test : Bool). test || are_closed (pieces ++ piece.Bytes bytes ∷ [])) parts.0 ∙ unclosed-more pieces bytes parts.1

has_end-last : (pieces : List Piece) → has_end (pieces ++ piece.End ∷ []) ≡ true
has_end-last [] = refl
has_end-last (first ∷ pieces) = by_test (is_end first) (has_end-last pieces)
  where
    by_test : (test : Bool) {rest : Bool} → rest ≡ true → (test || rest) ≡ true
    by_test true is = refl
    by_test false is = is

some_bytes : (bytes : List ℕ) → 0 < length bytes → has_bytes (piece.Bytes bytes) ≡ true
some_bytes bytes some = ap not (ne_eqb (length bytes) 0 (λ none. omega (arith, some, none)))

-- one more piece of what is left
pub front_more : (pieces now : List Piece) (bytes left text : List ℕ) (count : ℕ) → now ≡ pieces ++ piece.Bytes bytes ∷ [] → bytes ≡ take count left → 0 < length bytes
    → AreFront pieces left text → AreFront now (take (length left - count) (drop count left)) text
front_more pieces now bytes left text count now_is bytes_are some front = (
  ap (λ (it : List Piece). text_of it ++ take (length left - count) (drop count left)) now_is
      ∙ ap (λ (rest : List ℕ). text_of (pieces ++ piece.Bytes bytes ∷ []) ++ rest) (take_rest left count)
      ∙ ap (λ (it : List ℕ). it ++ drop count left) (text_of-append pieces (piece.Bytes bytes ∷ []))
      ∙ ap (λ (it : List ℕ). (text_of pieces ++ it) ++ drop count left) (append-nil bytes ∙ bytes_are)
      ∙ append_assoc (text_of pieces) (take count left) (drop count left)
      ∙ ap (λ (it : List ℕ). text_of pieces ++ it) (take-append-drop count left)
      ∙ front.0,
  ap are_closed now_is ∙ unclosed-more pieces bytes front.1,
  ap (list_all is_plain) now_is ∙ all-more is_plain pieces (piece.Bytes bytes) front.2 refl,
  ap (list_all has_bytes) now_is ∙ all-more has_bytes pieces (piece.Bytes bytes) front.3 (some_bytes bytes some),
)

-- the first piece of what is left is as much of it as it has bytes
pub front_size : (left bytes same : List ℕ) → bytes ≡ take (min (length left) MAX_PIECE) left → same ≡ bytes → bytes ≡ take (length same) left
front_size left bytes same front is =
    let few : min (length left) MAX_PIECE ≤ length left = omega arith in
    let size : length same ≡ min (length left) MAX_PIECE = ap length (is ∙ front) ∙ length-take-le (min (length left) MAX_PIECE) left few in
    front ∙ ap (λ (count : ℕ). take count left) (sym size)

empty : (text : List ℕ) → length text ≡ 0 → text ≡ []
empty [] none = refl
empty (byte ∷ text) none = absurd (omega (arith, none))

-- and the end behind all
pub front_ended : (pieces now : List Piece) (left text : List ℕ) → now ≡ pieces ++ piece.End ∷ [] → length left ≡ 0 → AreFront pieces left text → AreWhole now text
front_ended pieces now left text now_is none front = record {
  carries = ap text_of now_is ∙ text_of-append pieces (piece.End ∷ []) ∙ ap (λ (it : List ℕ). text_of pieces ++ it) (sym (empty left none)) ∙ front.0;
  ended = ap has_end now_is ∙ has_end-last pieces;
  clean = ap is_clean now_is ∙ is_clean-add pieces piece.End front.1;
  plain = ap (list_all is_plain) now_is ∙ all-more is_plain pieces piece.End front.2 refl;
  sized = ap (list_all has_bytes) now_is ∙ all-more has_bytes pieces piece.End front.3 refl;
}

module _ (cells : List (Cell NodeKind)) (inputs : ℕ → List ℕ) where
  -- the texts of the sources before a node have come
  pub record LoadedTo (nodes : ℕ) (wires : List (List Piece)) : Type 0 where
    pub source : (node : ℕ) (cell : Cell NodeKind) → node < nodes → slice_get cells node ≡ Some cell → is_source cell.kind ≡ true
        → AreWhole (waiting_on wires (outer_edge cells node)) (inputs node)
    pub none : (edge : ℕ)
        → ((node : ℕ) (cell : Cell NodeKind) → node < nodes → slice_get cells node ≡ Some cell → is_source cell.kind ≡ true → edge ≡ outer_edge cells node → ⊥)
        → waiting_on wires edge ≡ []

  -- at first none
  pub loaded_first : (wires : List (List Piece)) → ((edge : ℕ) → waiting_on wires edge ≡ []) → LoadedTo 0 wires
  loaded_first wires none = record {
    source = λ node cell low at_node source. absurd (omega (arith, low));
    none = λ edge apart. none edge;
  }

  -- and at last all
  pub loaded_last : (nodes : ℕ) (wires : List (List Piece)) → ((node : ℕ) (cell : Cell NodeKind) → slice_get cells node ≡ Some cell → node < nodes) → LoadedTo nodes wires
      → IsLoaded cells inputs wires
  loaded_last nodes wires within loaded = record {
    source = λ node cell at_node source. loaded.source node cell (within node cell at_node) at_node source;
    none = λ edge apart. loaded.none edge (λ node cell low at_node source same. apart node cell at_node source same);
  }

  -- nothing waits for the next
  pub none_ahead : (node : ℕ) (wires : List (List Piece)) → LoadedTo node wires → waiting_on wires (outer_edge cells node) ≡ []
  none_ahead node wires loaded = loaded.none (outer_edge cells node) (λ other cell low at_other source same. absurd (omega (arith, low, same)))

  module _ (node : ℕ) (cell : Cell NodeKind) (at_node : slice_get cells node ≡ Some cell) (wires : List (List Piece)) (wire : List Piece)
      (within : outer_edge cells node < length wires) (before : LoadedTo node wires)
      (whole : is_source cell.kind ≡ true → AreWhole wire (inputs node)) (same : is_source cell.kind ≡ false → wire ≡ waiting_on wires (outer_edge cells node)) where
    source_here : (other : ℕ) (found : Cell NodeKind) → other ≡ node → slice_get cells other ≡ Some found → is_source found.kind ≡ true
        → AreWhole (waiting_on (slice_set wires (outer_edge cells node) wire) (outer_edge cells other)) (inputs other)
    source_here other found one at_other source =
        let found_too : Some cell ≡ Some found = sym at_node ∙ ap (slice_get cells) (sym one) ∙ at_other in
        let same_cell : cell ≡ found = cc in
        let holds = whole (ap (λ (it : Cell NodeKind). is_source it.kind) same_cell ∙ source) in
        subst (λ (it : ℕ). AreWhole (waiting_on (slice_set wires (outer_edge cells node) wire) (outer_edge cells it)) (inputs it)) (sym one)
        (subst (λ (pieces : List Piece). AreWhole pieces (inputs node)) (sym (get_or-set_same wires (outer_edge cells node) wire [] within)) holds)

    none_here : (test : Bool) → is_source cell.kind ≡ test → (edge : ℕ)
        → ((other : ℕ) (found : Cell NodeKind) → other < node + 1 → slice_get cells other ≡ Some found → is_source found.kind ≡ true → edge ≡ outer_edge cells other → ⊥)
        → waiting_on wires edge ≡ [] → waiting_on (slice_set wires (outer_edge cells node) wire) edge ≡ []
    none_here true is edge apart none = get_or-set_other wires (outer_edge cells node) edge wire [] (apart node cell (omega arith) at_node is) ∙ none
    none_here false is edge apart none =
        ap (λ (it : List Piece). waiting_on (slice_set wires (outer_edge cells node) it) edge) (same is)
        ∙ ap (λ (it : List (List Piece)). waiting_on it edge) (set-get_or wires (outer_edge cells node) []) ∙ none

    -- one node more
    pub loaded_more : LoadedTo (node + 1) (slice_set wires (outer_edge cells node) wire)
    loaded_more = record {
      source = λ other found low at_other source. elim (cases_lt other node) [
        | inl earlier ↦ subst (λ (pieces : List Piece). AreWhole pieces (inputs other))
            (sym (get_or-set_other wires (outer_edge cells node) (outer_edge cells other) wire [] (λ one. absurd (omega (arith, one, earlier)))))
            (before.source other found earlier at_other source)
        | inr later ↦ source_here other found (omega (arith, low, later)) at_other source
      ];
      none = λ edge apart. none_here (is_source cell.kind) refl edge apart
          (before.none edge (λ other found low at_other source one. apart other found (omega (arith, low)) at_other source one));
    }

-- one node more of a graph's
pub nodes_loaded_more : (nodes : List (Cell NodeKind)) (inputs : ℕ → List ℕ) (edges node : ℕ) (it : Cell NodeKind) (wires : List (List Piece)) (was wire : List Piece) (text : List ℕ)
    → edges ≡ length (gives nodes) → node < length nodes → it ≡ get_or nodes node it → edges + node < length wires → was ≡ get_or wires (edges + node) was → text ≡ inputs node
    → LoadedTo nodes inputs node wires → (is_source (get_or nodes node it).kind ≡ true → AreWhole wire text) → (is_source (get_or nodes node it).kind ≡ false → wire ≡ get_or wires (edges + node) was)
    → LoadedTo nodes inputs (node + 1) (slice_set wires (edges + node) wire)
nodes_loaded_more nodes inputs edges node it wires was wire text counted low it_is within was_is text_is before whole same =
    let here : outer_edge nodes node ≡ edges + node = ap (λ (count : ℕ). count + node) (sym counted) in
    let kind = ap (λ (found : Cell NodeKind). is_source found.kind) (sym it_is) in
    subst (λ (edge : ℕ). LoadedTo nodes inputs (node + 1) (slice_set wires edge wire)) here
    (loaded_more nodes inputs node it (slice_get_read nodes (length nodes) node it refl low it_is) wires wire
    (subst (λ (edge : ℕ). edge < length wires) (sym here) within) before
    (λ is. subst (λ (it : List ℕ). AreWhole wire it) text_is (whole (kind ∙ is)))
    (λ is. same (kind ∙ is) ∙ sym was_is ∙ wire_at wires (edges + node) was within was_is ∙ ap (waiting_on wires) (sym here)))

-- all of a graph's
pub nodes_loaded : (nodes : List (Cell NodeKind)) (inputs : ℕ → List ℕ) (node : ℕ) (wires : List (List Piece)) → length nodes ≤ node → LoadedTo nodes inputs node wires
    → IsLoaded nodes inputs wires
nodes_loaded nodes inputs node wires all =
    loaded_last nodes inputs node wires
    (λ other found at_other.
    let low = slice_get_within nodes other found at_other in omega (arith, low, all))
