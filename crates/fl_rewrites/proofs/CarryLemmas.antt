-- What the edges of a graph carry, by any values that meet the equations of its nodes: what is asked of the sources, what is written and what
-- is selected. A rewrite is shown node by node over such values.
use Rattle.std.proofs.Common.{◌≡◌, ℕ, ◌==◌, List, [], ◌∷◌, Bool, true, nat_le, Option, None, Some, length, map, refl, ap, sym, subst, ◌∙◌}
use Rattle.std.specs.List.{flat_map, list_all}
use Rattle.std.specs.Option.{option_map}
use Rattle.std.proofs.lemmas.Option.{none-some, same_Some}
use Rattle.std.proofs.lemmas.Bool.{and_parts, eqb-true}
use Rattle.std.proofs.lemmas.List.{length-map, length-replicate, map-id}
use Rattle.ut_args.specs.Inputs.{inputs_of}
use Rattle.fl_graph.specs.Net.{has, gives, after, run}
use Rattle.fl_graph.proofs.NetLemmas.{Agree}
use Rattle.fl_graph.specs.declared.graphs.Cell.{Cell}
use Rattle.fl_graph.specs.declared.graphs.Graph.{Graph}
use Rattle.fl_graph.specs.declared.graphs.StatusRule.{StatusRule}
use Rattle.fl_graph.specs.Kinds.{may_have, has_its_ports}
use Rattle.fl_graph.specs.Makers.{all_hold}
use Rattle.fl_graph.specs.Valid.{Valid}
use Rattle.fl_graph.specs.declared.kinds.NodeKind.{NodeKind}
use Rattle.fl_graph.specs.declared.kinds.NodeKind.TheVariants as kind
use Rattle.fl_classes.specs.Flow.{Placed, placed, placed_from, only, texts_given, equation, no_texts, flow, Write, writes_of, writes, to_output, to_file, selects, selections, status_by, Outcome, outcome}
use Rattle.fl_classes.proofs.PartLemmas.{parts_of-count}
use Rattle.fl_rewrites.specs.Numbering.{numbered}
use Rattle.fl_rewrites.specs.Suits.{Value, with_origin, values_given, no_value, asks, Suits}
use Rattle.fl_rewrites.specs.Keeps.{Keeps, KeepsWhere, Answers, KeepsFlow, KeepsFlowWhere}
use Rattle.fl_rewrites.specs.declared.answers.Rewritten.{Rewritten}
use Rattle.fl_rewrites.specs.declared.answers.Rewritten.TheVariants as rewritten
use Rattle.fl_rewrites.proofs.OrderLemmas.{Each, IsWired, IsMet, Fits, told, told-met, only-met, after-met}
use Rattle.fl_rewrites.proofs.NumberLemmas.{told-numbered}
use Rattle.fl_rewrites.proofs.PlacedLemmas.{next_source, gives-placed, wired-placed, placed-numbered, told-placed}
use Rattle.fl_rewrites.proofs.SoundLemmas.{IsSound, sound-valid, valid-numbered}

-- one after another
pub map-after : {X Y Z : Type 0} (first : X → Y) (second : Y → Z) (xs : List X) → map second (map first xs) ≡ map (λ x. second (first x)) xs
map-after first second [] = refl
map-after {X} {Y} {Z} first second (x ∷ xs) = ap (λ (rest : List Z). second (first x) ∷ rest) (map-after first second xs)

-- a node has as many texts as it has outs
fits-texts : (sources : List (List ℕ)) (number : ℕ) (node : NodeKind) (ins outs : ℕ) → may_have node ins outs ≡ true → (texts : List (List ℕ))
    → length (texts_given sources number node outs texts) ≡ outs
fits-texts sources number (kind.Source source) ins outs has texts = sym (eqb-true outs 1 (and_parts (ins == 0) (outs == 1) has).1)
fits-texts sources number (kind.Text text) ins outs has texts = sym (eqb-true outs 1 (and_parts (ins == 0) (outs == 1) has).1)
fits-texts sources number kind.Split ins outs has texts = parts_of-count (only texts) outs
fits-texts sources number (kind.Map inv) ins outs has texts = sym (eqb-true outs 1 (and_parts (ins == 1) (outs == 1) has).1)
fits-texts sources number (kind.Whole inv) ins outs has texts = sym (eqb-true outs 1 (and_parts (ins == inputs_of inv) (outs == 1) has).1)
fits-texts sources number (kind.Cat close) ins outs has texts = sym (eqb-true outs 1 (and_parts (nat_le 1 ins) (outs == 1) has).1)
fits-texts sources number (kind.Agg inv) ins outs has texts = sym (eqb-true outs 1 (and_parts (nat_le 2 ins) (outs == 1) has).1)
fits-texts sources number (kind.Finish inv) ins outs has texts = sym (eqb-true outs 1 (and_parts (ins == 1) (outs == 1) has).1)
fits-texts sources number (kind.TeeFile path mode) ins outs has texts = length-replicate outs (only texts)
fits-texts sources number kind.Drain ins outs has texts = sym (eqb-true outs 0 (and_parts (ins == 1) (outs == 0) has).1)
fits-texts sources number (kind.Sink sink) ins outs has texts = sym (eqb-true outs 0 (and_parts (ins == 1) (outs == 0) has).1)

abbrev pub text_of : Value → List ℕ
text_of value = value.text

module _ (sources : List (List ℕ)) where
  fits-values : (number : ℕ) (cells : List (Cell NodeKind)) → list_all has_its_ports cells ≡ true → Each (Fits (values_given sources)) (placed_from number cells)
  fits-values number [] ports = tt
  fits-values number (cell ∷ cells) ports =
      let parts = and_parts (has_its_ports cell) (list_all has_its_ports cells) ports in (
        (λ ins. length-map (texts_given sources number cell.kind (length cell.outs) (map text_of ins)) (with_origin cell.kind ins)
            ∙ fits-texts sources number cell.kind (length cell.ins) (length cell.outs) parts.0 (map text_of ins)),
        fits-values (next_source number cell) cells parts.1,
      )

  fits-equation : (number : ℕ) (cells : List (Cell NodeKind)) → list_all has_its_ports cells ≡ true → Each (Fits (equation sources)) (placed_from number cells)
  fits-equation number [] ports = tt
  fits-equation number (cell ∷ cells) ports =
      let parts = and_parts (has_its_ports cell) (list_all has_its_ports cells) ports in
      ((λ ins. fits-texts sources number cell.kind (length cell.ins) (length cell.outs) parts.0 ins), fits-equation (next_source number cell) cells parts.1)

  -- the values meet the equation of each node, with so many sources before the first
  abbrev pub Carries : ℕ → List (Cell NodeKind) → (ℕ → Value) → Type 0
  Carries number cells values = Each (IsMet (values_given sources) values) (placed_from number cells)

  -- the texts of these values then meet those of the flow
  text-met : (values : ℕ → Value) (cell : Cell Placed) → IsMet (values_given sources) values cell → IsMet (equation sources) (λ edge. (values edge).text) cell
  text-met values cell met =
      let ins : List Value = map values cell.ins in
      let given : List (List ℕ) = texts_given sources cell.kind.0 cell.kind.1 (length cell.outs) (map text_of ins) in
      sym (map-after values text_of cell.outs) ∙ ap (map text_of) met ∙ map-after (with_origin cell.kind.1 ins) text_of given ∙ map-id given
      ∙ ap (equation sources cell.kind (length cell.outs)) (map-after values text_of cell.ins)

  texts-met : (values : ℕ → Value) (cells : List (Cell Placed)) → Each (IsMet (values_given sources) values) cells → Each (IsMet (equation sources) (λ edge. (values edge).text)) cells
  texts-met values [] met = tt
  texts-met values (cell ∷ cells) met = (text-met values cell met.0, texts-met values cells met.1)

  abbrev pub asked : (ℕ → Value) → List (Cell NodeKind) → List Bool
  asked values cells = told asks values cells

  abbrev pub written : (ℕ → Value) → List (Cell NodeKind) → List Write
  written values cells = told writes_of (λ edge. (values edge).text) cells

  abbrev pub selected : (ℕ → Value) → List (Cell NodeKind) → List Bool
  selected values cells = told (λ (node : NodeKind) (ins : List (List ℕ)). selects node ins ∷ []) (λ edge. (values edge).text) cells

  module _ (cells : List (Cell NodeKind)) (values : ℕ → Value) (wired : IsWired cells) (ports : list_all has_its_ports cells ≡ true) (met : Carries 0 cells values) where
    -- a graph with these nodes
    pub suits-asked : run (values_given sources) (λ node ins. asks node.1 ins) (placed cells) no_value ≡ asked values cells
    suits-asked =
        told-met (values_given sources) (λ (node : Placed) (ins : List Value). asks node.1 ins) (placed cells) no_value values (wired-placed cells wired) (fits-values 0 cells ports) met
        ∙ told-placed asks values 0 cells

    pub writes-written : writes cells sources ≡ written values cells
    writes-written =
        told-met (equation sources) (λ (node : Placed) (ins : List (List ℕ)). writes_of node.1 ins) (placed cells) no_texts (λ edge. (values edge).text) (wired-placed cells wired)
        (fits-equation 0 cells ports) (texts-met values (placed cells) met)
        ∙ told-placed writes_of (λ edge. (values edge).text) 0 cells

    pub selections-selected : selections cells sources ≡ selected values cells
    selections-selected =
        told-met (equation sources) (λ (node : Placed) (ins : List (List ℕ)). selects node.1 ins ∷ []) (placed cells) no_texts (λ edge. (values edge).text) (wired-placed cells wired)
        (fits-equation 0 cells ports) (texts-met values (placed cells) met)
        ∙ told-placed (λ (node : NodeKind) (ins : List (List ℕ)). selects node ins ∷ []) (λ edge. (values edge).text) 0 cells

    -- their texts are those of the flow
    pub flow-carried : Agree (gives cells) (flow cells sources) (λ edge. (values edge).text)
    flow-carried edge there =
        only-met (equation sources) (placed cells) (flow cells sources) (λ edge. (values edge).text) (wired-placed cells wired)
        (after-met (equation sources) (placed cells) no_texts (wired-placed cells wired) (fits-equation 0 cells ports)) (texts-met values (placed cells) met)
        edge (ap (has edge) (gives-placed 0 cells) ∙ there)

    -- and one with the edges numbered anew
    suits-numbered : run (values_given sources) (λ node ins. asks node.1 ins) (placed (numbered cells)) no_value ≡ asked values cells
    suits-numbered =
        ap (λ (nodes : List (Cell Placed)). run (values_given sources) (λ (node : Placed) (ins : List Value). asks node.1 ins) nodes no_value) (placed-numbered cells)
        ∙ told-numbered (values_given sources) (λ (node : Placed) (ins : List Value). asks node.1 ins) (placed cells) no_value values (wired-placed cells wired) (fits-values 0 cells ports) met
        ∙ told-placed asks values 0 cells

    writes-numbered : writes (numbered cells) sources ≡ written values cells
    writes-numbered =
        ap (λ (nodes : List (Cell Placed)). run (equation sources) (λ (node : Placed) (ins : List (List ℕ)). writes_of node.1 ins) nodes no_texts) (placed-numbered cells)
        ∙ told-numbered (equation sources) (λ (node : Placed) (ins : List (List ℕ)). writes_of node.1 ins) (placed cells) no_texts (λ edge. (values edge).text) (wired-placed cells wired)
        (fits-equation 0 cells ports) (texts-met values (placed cells) met)
        ∙ told-placed writes_of (λ edge. (values edge).text) 0 cells

    selections-numbered : selections (numbered cells) sources ≡ selected values cells
    selections-numbered =
        ap (λ (nodes : List (Cell Placed)). run (equation sources) (λ (node : Placed) (ins : List (List ℕ)). selects node.1 ins ∷ []) nodes no_texts) (placed-numbered cells)
        ∙ told-numbered (equation sources) (λ (node : Placed) (ins : List (List ℕ)). selects node.1 ins ∷ []) (placed cells) no_texts (λ edge. (values edge).text) (wired-placed cells wired)
        (fits-equation 0 cells ports) (texts-met values (placed cells) met)
        ∙ told-placed (λ (node : NodeKind) (ins : List (List ℕ)). selects node ins ∷ []) (λ edge. (values edge).text) 0 cells

  -- some values meet the equations: those of the flow
  pub carried : (cells : List (Cell NodeKind)) → IsWired cells → list_all has_its_ports cells ≡ true → Carries 0 cells (after (values_given sources) (placed cells) no_value)
  carried cells wired ports = after-met (values_given sources) (placed cells) no_value (wired-placed cells wired) (fits-values 0 cells ports)

-- two lists of nodes, by what their edges carry: nothing that doesn't hold is asked by the second, and it writes and selects the same
pub record LeavesSame (old new : List (Cell NodeKind)) (before now : StatusRule) (sources : List (List ℕ)) (one other : ℕ → Value) : Type 0 where
  pub asks : all_hold (asked sources other new) ≡ true
  pub writes : written sources one old ≡ written sources other new
  pub selects : status_by before (selected sources one old) ≡ status_by now (selected sources other new)

abbrev pub values_of : List (List ℕ) → List (Cell NodeKind) → ℕ → Value
values_of sources cells = after (values_given sources) (placed cells) no_value

abbrev outcome_of : List Write → ℕ → Outcome
outcome_of writes code = record { output = flat_map to_output writes; files = flat_map to_file writes; status = code }

-- it is shown over all values that are carried, where the texts suit the old nodes; and for texts of which more is known
abbrev pub LeavesWhere : (List (List ℕ) → Type 0) → (old new : List (Cell NodeKind)) (before now : StatusRule) → Type 0
LeavesWhere known old new before now =
    (sources : List (List ℕ)) → known sources → (one other : ℕ → Value) → Carries sources 0 old one → Carries sources 0 new other → all_hold (asked sources one old) ≡ true
    → LeavesSame old new before now sources one other

abbrev pub LeavesAlways : (old new : List (Cell NodeKind)) (before now : StatusRule) → Type 0
LeavesAlways old new before now = LeavesWhere (λ sources. Unit {0}) old new before now

module _ (known : List (List ℕ) → Type 0) (old : Graph) (new : List (Cell NodeKind)) (now : StatusRule) (valid : Valid old.nodes old.status) (sound : IsSound new now)
    (each : LeavesWhere known old.nodes new old.status now) where
  before_sound : IsSound old.nodes old.status
  before_sound = sound-valid old.nodes old.status valid

  same : (sources : List (List ℕ)) → known sources → Suits old.nodes sources → LeavesSame old.nodes new old.status now sources (values_of sources old.nodes) (values_of sources new)
  same sources is suits =
      let first = carried sources old.nodes before_sound.wired before_sound.ports in
      each sources is (values_of sources old.nodes) (values_of sources new) first (carried sources new sound.wired sound.ports)
      (ap all_hold (sym (suits-asked sources old.nodes (values_of sources old.nodes) before_sound.wired before_sound.ports first)) ∙ suits)

  suited : (sources : List (List ℕ)) → known sources → Suits old.nodes sources → Suits (numbered new) sources
  suited sources is suits =
      ap all_hold (suits-numbered sources new (values_of sources new) sound.wired sound.ports (carried sources new sound.wired sound.ports)) ∙ (same sources is suits).asks

  left : (sources : List (List ℕ)) → known sources → Suits old.nodes sources → outcome (record { nodes = numbered new; status = now }) sources ≡ outcome old sources
  left sources is suits =
      let one : ℕ → Value = values_of sources old.nodes in
      let other : ℕ → Value = values_of sources new in
      let first = carried sources old.nodes before_sound.wired before_sound.ports in
      let second = carried sources new sound.wired sound.ports in
      let wrote : writes (numbered new) sources ≡ writes old.nodes sources =
      writes-numbered sources new other sound.wired sound.ports second ∙ sym (same sources is suits).writes
      ∙ sym (writes-written sources old.nodes one before_sound.wired before_sound.ports first) in
      let coded : status_by now (selections (numbered new) sources) ≡ status_by old.status (selections old.nodes sources) =
      ap (status_by now) (selections-numbered sources new other sound.wired sound.ports second) ∙ sym (same sources is suits).selects
      ∙ ap (status_by old.status) (sym (selections-selected sources old.nodes one before_sound.wired before_sound.ports first)) in
      ap (λ (all : List Write). outcome_of all (status_by now (selections (numbered new) sources))) wrote ∙ ap (outcome_of (writes old.nodes sources)) coded

  -- so a rewrite keeps the flow for these texts
  pub keeps_where : KeepsWhere known old (record { nodes = numbered new; status = now })
  keeps_where = record { valid = valid-numbered new now sound; suits = suited; leaves = left }

-- and for any
pub keeps : (old : Graph) (new : List (Cell NodeKind)) (now : StatusRule) → Valid old.nodes old.status → IsSound new now → LeavesAlways old.nodes new old.status now
    → Keeps old (record { nodes = numbered new; status = now })
keeps old new now valid sound each =
    let kept = keeps_where (λ sources. Unit {0}) old new now valid sound each in
    record { valid = kept.valid; suits = λ sources suits. kept.suits sources tt suits; leaves = λ sources suits. kept.leaves sources tt suits }

-- a rewrite that answers a graph which keeps the flow does so
pub answers-keep : (made : Option Graph) (old : Graph) (result : Rewritten) → ((new : Graph) → made ≡ Some new → Keeps old new) → Answers made old result → KeepsFlow old result
answers-keep made old (rewritten.Done new) keeps_it is = keeps_it new is
answers-keep made old (rewritten.NotApplicable same) keeps_it is = tt
answers-keep made old rewritten.Memory keeps_it is = tt

pub answers-keep-where : (known : List (List ℕ) → Type 0) (made : Option Graph) (old : Graph) (result : Rewritten) → ((new : Graph) → made ≡ Some new → KeepsWhere known old new) → Answers made old result
    → KeepsFlowWhere known old result
answers-keep-where known made old (rewritten.Done new) keeps_it is = keeps_it new is
answers-keep-where known made old (rewritten.NotApplicable same) keeps_it is = tt
answers-keep-where known made old rewritten.Memory keeps_it is = tt

-- where more is known of texts, what is kept for fewer is kept
pub keeps-fewer : (known more : List (List ℕ) → Type 0) (old new : Graph) → ((sources : List (List ℕ)) → more sources → known sources) → KeepsWhere known old new → KeepsWhere more old new
keeps-fewer known more old new turn kept =
    record { valid = kept.valid; suits = λ sources is. kept.suits sources (turn sources is); leaves = λ sources is. kept.leaves sources (turn sources is) }

-- a graph that is made of what was found is of something
pub made-of : {Found : Type 0} (make : Found → Graph) (found : Option Found) (new : Graph) (holds : Graph → Type 0) → ((it : Found) → found ≡ Some it → holds (make it)) → option_map make found ≡ Some new → holds new
made-of make None new holds each made = absurd (none-some new made)
made-of make (Some it) new holds each made = subst holds (same_Some (make it) new made) (each it refl)
