-- A split and a Cat before a node: the graph is valid, and keeps the flow.
use Rattle.std.proofs.Common.{◌≡◌, ℕ, zero, suc, ◌+◌, ◌<◌, ◌≤◌, List, [], ◌∷◌, ◌++◌, Bool, true, false, nat_le, if◌then◌else◌, Option, None, Some, length, map, get_or, set, refl, ap, sym, subst, ◌∙◌, arith}
use Rattle.std.specs.List.{list_all, slice_get, insert, range_with_len}
use Rattle.std.specs.Option.{option_map_or}
use Rattle.std.proofs.lemmas.Bool.{true≢false, and_parts, and_from, leb-true}
use Rattle.std.proofs.lemmas.Option.{none-some, slice_get_within, cond_some}
use Rattle.std.proofs.lemmas.List.Folds.{list_all-append, list_all-map}
use Rattle.std.proofs.lemmas.Grind.{flat_map-append}
use Rattle.ps_world.specs.Paths.{Components}
use Rattle.fl_graph.specs.Net.{has, takes, gives}
use Rattle.fl_graph.specs.declared.graphs.Cell.{Cell}
use Rattle.fl_graph.specs.declared.graphs.Graph.{Graph}
use Rattle.fl_graph.specs.declared.graphs.StatusRule.{StatusRule}
use Rattle.fl_graph.specs.Kinds.{is_input, is_output, reads_one_input, has_its_class, runs_what_is_built}
use Rattle.fl_graph.specs.Makers.{all_hold}
use Rattle.fl_graph.specs.Paths.{paths_read, paths_written, path_read, path_written, ArePathsApart}
use Rattle.fl_graph.specs.Valid.{Valid, nodes_named, names_selector}
use Rattle.fl_graph.specs.declared.kinds.NodeKind.{NodeKind}
use Rattle.fl_graph.specs.declared.kinds.NodeKind.TheVariants as kind
use Rattle.fl_graph.proofs.ListLemmas.{list_all-agree}
use Rattle.fl_graph.proofs.NetLemmas.{has-front, has-back}
use Rattle.fl_classes.specs.Flow.{Placed, placed_from, Write, writes_of, selects, status_by}
use Rattle.fl_rewrites.specs.Numbering.{numbered}
use Rattle.fl_rewrites.specs.Places.{replaced, taker_of}
use Rattle.fl_rewrites.specs.Suits.{Value, values_given, asks}
use Rattle.fl_rewrites.specs.Keeps.{Keeps}
use Rattle.fl_rewrites.proofs.OrderLemmas.{Each, each-append, each-front, each-back, OfAll, IsWired, IsMet, along}
use Rattle.fl_rewrites.proofs.NumberLemmas.{taken-given}
use Rattle.fl_rewrites.proofs.PlacedLemmas.{sources_behind, placed-append, next_source}
use Rattle.fl_rewrites.proofs.SoundLemmas.{IsSound, sound-valid}
use Rattle.fl_rewrites.proofs.CarryLemmas.{Carries, asked, written, selected, LeavesSame, LeavesAlways, keeps}
use Rattle.fl_rewrites.proofs.SpliceLemmas.{told-append}
use Rattle.fl_rewrites.proofs.PlaceLemmas.{StandsAt, stands-at, taker-takes}
use Rattle.fl_split.specs.declared.inserting.TheConstants.{MAX_PARTS}
use Rattle.fl_split.specs.Inserting.{may_have_parts, may_take_parts, split_cell, join_cell, turned_cell, turned, split_cells, moved, moved_status, split_graph, may_be_split, site_at, site_of}
use Rattle.fl_split.proofs.KindLemmas.{put, kinds-all, kinds-count, kinds-found, ports-kept, selector-moved, named-moved, status-moved}
use Rattle.fl_split.proofs.WireLemmas.{wired-split}
use Rattle.fl_split.proofs.MapLemmas.{maps-split}
use Rattle.fl_split.proofs.PartLemmas.{Lost, lost-on, lost-asked, lost-written, lost-selected, taker-lost, taker-asked, taker-texts, join-asked}

-- one answer a node
one-each : (sources : List (List ℕ)) (values : ℕ → Value) (cells : List (Cell NodeKind)) → length (selected sources values cells) ≡ length cells
one-each sources values [] = refl
one-each sources values (cell ∷ cells) = ap suc (one-each sources values cells)

module _ (next edge parts : ℕ) (taker : Cell NodeKind) (front back : List (Cell NodeKind)) (status : StatusRule) (some : 1 ≤ parts)
    (taken : has edge taker.ins ≡ true) (plain : may_take_parts taker.kind ≡ true) where
  -- the nodes are sound
  module _ (old : IsSound (front ++ (taker ∷ back)) status) (below : (other : ℕ) → has other (gives (front ++ (taker ∷ back))) ≡ true → other < next) where
    pub sound-split : IsSound (front ++ put next edge parts taker back) (moved_status (length front) status)
    sound-split =
        let wired : IsWired (front ++ put next edge parts taker back) = wired-split next edge parts taker front back old.wired taken below in
        record {
          wired = wired;
          ports = ports-kept next edge parts taker back some front old.ports;
          ends = record {
            input = subst (λ (times : ℕ). times ≤ 1) (sym (kinds-count next edge parts taker back is_input refl refl front)) old.ends.input;
            output = subst (λ (times : ℕ). times ≤ 1) (sym (kinds-count next edge parts taker back is_output refl refl front)) old.ends.output;
          };
          inputs = kinds-all next edge parts taker back reads_one_input refl refl front ∙ old.inputs;
          classes = kinds-all next edge parts taker back has_its_class refl refl front ∙ old.classes;
          built = kinds-all next edge parts taker back runs_what_is_built refl refl front ∙ old.built;
          maps = maps-split next edge parts taker front back old.wired below plain wired old.maps;
          paths =
              subst (λ (read : List Components). ArePathsApart read (paths_written (front ++ put next edge parts taker back))) (sym (kinds-found next edge parts taker back path_read refl refl front))
              (subst (λ (written : List Components). ArePathsApart (paths_read (front ++ (taker ∷ back))) written) (sym (kinds-found next edge parts taker back path_written refl refl front)) old.paths);
          named =
              ap (list_all (names_selector (front ++ put next edge parts taker back))) (named-moved (length front) status)
              ∙ list_all-map (names_selector (front ++ put next edge parts taker back)) (moved (length front)) (nodes_named status)
              ∙ list_all-agree (λ node. names_selector (front ++ put next edge parts taker back) (moved (length front) node)) (names_selector (front ++ (taker ∷ back)))
              (selector-moved next edge parts taker front back) (nodes_named status)
              ∙ old.named;
        }

  -- and their edges carry what is needed
  module _ (wired : IsWired (front ++ (taker ∷ back))) (sources : List (List ℕ)) (one other : ℕ → Value)
      (first : Carries sources 0 (front ++ (taker ∷ back)) one) (second : Carries sources 0 (front ++ put next edge parts taker back) other) where
    abbrev number : ℕ
    number = sources_behind 0 front

    first_parts : Each (IsMet (values_given sources) one) (placed_from 0 front ++ placed_from number (taker ∷ back))
    first_parts = subst (λ (cells : List (Cell Placed)). Each (IsMet (values_given sources) one) cells) (placed-append 0 front (taker ∷ back)) first

    second_parts : Each (IsMet (values_given sources) other) (placed_from 0 front ++ placed_from number (put next edge parts taker back))
    second_parts = subst (λ (cells : List (Cell Placed)). Each (IsMet (values_given sources) other) cells) (placed-append 0 front (put next edge parts taker back)) second

    one_behind : Carries sources number (taker ∷ back) one
    one_behind = each-back (IsMet (values_given sources) one) (placed_from 0 front) (placed_from number (taker ∷ back)) first_parts

    other_behind : Carries sources number (put next edge parts taker back) other
    other_behind = each-back (IsMet (values_given sources) other) (placed_from 0 front) (placed_from number (put next edge parts taker back)) second_parts

    steps : Each (λ (cell : Cell NodeKind). OfAll (Lost sources one other) cell.ins → OfAll (Lost sources one other) cell.outs) (front ++ (taker ∷ back))
    steps =
        each-append (λ (cell : Cell NodeKind). OfAll (Lost sources one other) cell.ins → OfAll (Lost sources one other) cell.outs) front (taker ∷ back)
        (lost-on sources one other 0 front (each-front (IsMet (values_given sources) one) (placed_from 0 front) (placed_from number (taker ∷ back)) first_parts)
        (each-front (IsMet (values_given sources) other) (placed_from 0 front) (placed_from number (put next edge parts taker back)) second_parts)) (
          (λ lost. taker-lost sources one other number next edge parts taker.stage some other_behind.0 other_behind.1.0 taker plain lost one_behind.0 other_behind.1.1.0),
          lost-on sources one other (next_source number taker) back one_behind.1 other_behind.1.1.1,
        )

    all_lost : OfAll (Lost sources one other) (gives (front ++ (taker ∷ back)))
    all_lost = along (Lost sources one other) [] (front ++ (taker ∷ back)) wired.later steps (λ edge none. absurd (true≢false (sym none)))

    taken_lost : OfAll (Lost sources one other) (takes front ++ (taker.ins ++ takes back))
    taken_lost another there =
        all_lost another (taken-given (front ++ (taker ∷ back)) wired another
        (ap (has another) (flat_map-append (λ (cell : Cell NodeKind). cell.ins) front (taker ∷ back)) ∙ there))

    front_lost : OfAll (Lost sources one other) (takes front)
    front_lost another there = taken_lost another (has-front another (takes front) (taker.ins ++ takes back) there)

    taker_lost : OfAll (Lost sources one other) taker.ins
    taker_lost another there = taken_lost another (has-back another (takes front) (taker.ins ++ takes back) (has-front another taker.ins (takes back) there))

    back_lost : OfAll (Lost sources one other) (takes back)
    back_lost another there = taken_lost another (has-back another (takes front) (taker.ins ++ takes back) (has-back another taker.ins (takes back) there))

    asks_split : all_hold (asked sources one (front ++ (taker ∷ back))) ≡ true → all_hold (asked sources other (front ++ put next edge parts taker back)) ≡ true
    asks_split asked_before =
        let before_taker : List Bool = asks taker.kind (map one taker.ins) in
        let now_taker : List Bool = asks taker.kind (map other (map (turned edge (next + parts)) taker.ins)) in
        let now_back : List Bool = asked sources other back in
        let now_join : List Bool = asks (kind.Cat false) (map other (range_with_len next parts)) in
        let whole = and_parts (all_hold (asked sources one front)) (all_hold (before_taker ++ asked sources one back))
        (sym (ap all_hold (told-append asks one front (taker ∷ back)) ∙ list_all-append (λ (it : Bool). it) (asked sources one front) (before_taker ++ asked sources one back)) ∙ asked_before) in
        let behind = and_parts (all_hold before_taker) (all_hold (asked sources one back)) (sym (list_all-append (λ (it : Bool). it) before_taker (asked sources one back)) ∙ whole.1) in
        let last : all_hold (now_taker ++ now_back) ≡ true =
        list_all-append (λ (it : Bool). it) now_taker now_back
        ∙ and_from (all_hold now_taker) (all_hold now_back)
        (taker-asked sources one other number next edge parts taker.stage some other_behind.0 other_behind.1.0 taker plain taker_lost behind.0)
        (lost-asked sources one other back back_lost behind.1) in
        let joined : all_hold (now_join ++ (now_taker ++ now_back)) ≡ true =
        list_all-append (λ (it : Bool). it) now_join (now_taker ++ now_back)
        ∙ and_from (all_hold now_join) (all_hold (now_taker ++ now_back)) (join-asked sources one other number next edge parts taker.stage some other_behind.0 other_behind.1.0) last in
        ap all_hold (told-append asks other front (put next edge parts taker back))
        ∙ list_all-append (λ (it : Bool). it) (asked sources other front) (now_join ++ (now_taker ++ now_back))
        ∙ and_from (all_hold (asked sources other front)) (all_hold (now_join ++ (now_taker ++ now_back))) (lost-asked sources one other front front_lost whole.0) joined

    taker_texts : map (λ edge. (one edge).text) taker.ins ≡ map (λ edge. (other edge).text) (map (turned edge (next + parts)) taker.ins)
    taker_texts = taker-texts sources one other number next edge parts taker.stage some other_behind.0 other_behind.1.0 taker plain taker_lost

    writes_split : written sources one (front ++ (taker ∷ back)) ≡ written sources other (front ++ put next edge parts taker back)
    writes_split =
        told-append writes_of (λ edge. (one edge).text) front (taker ∷ back)
        ∙ ap (λ (all : List Write). all ++ written sources one (taker ∷ back)) (lost-written sources one other front front_lost)
        ∙ ap (λ (texts : List (List ℕ)). written sources other front ++ (writes_of taker.kind texts ++ written sources one back)) taker_texts
        ∙ ap (λ (all : List Write). written sources other front ++ (writes_of taker.kind (map (λ edge. (other edge).text) (map (turned edge (next + parts)) taker.ins)) ++ all)) (lost-written sources one other back back_lost)
        ∙ sym (told-append writes_of (λ edge. (other edge).text) front (put next edge parts taker back))

    selects_split : status_by status (selected sources one (front ++ (taker ∷ back)))
        ≡ status_by (moved_status (length front) status) (selected sources other (front ++ put next edge parts taker back))
    selects_split =
        let new : List Bool = selected sources other front in
        let last : List Bool = selects taker.kind (map (λ edge. (other edge).text) (map (turned edge (next + parts)) taker.ins)) ∷ selected sources other back in
        let size : length new ≡ length front = one-each sources other front in
        let before : selected sources one (front ++ (taker ∷ back)) ≡ new ++ last =
        told-append (λ (node : NodeKind) (ins : List (List ℕ)). selects node ins ∷ []) (λ edge. (one edge).text) front (taker ∷ back)
        ∙ ap (λ (all : List Bool). all ++ selected sources one (taker ∷ back)) (lost-selected sources one other front front_lost)
        ∙ ap (λ (texts : List (List ℕ)). new ++ (selects taker.kind texts ∷ selected sources one back)) taker_texts
        ∙ ap (λ (all : List Bool). new ++ (selects taker.kind (map (λ edge. (other edge).text) (map (turned edge (next + parts)) taker.ins)) ∷ all)) (lost-selected sources one other back back_lost) in
        ap (status_by status) before ∙ status-moved status new false false last ∙ ap (λ (place : ℕ). status_by (moved_status place status) (new ++ (false ∷ false ∷ last))) size
        ∙ ap (status_by (moved_status (length front) status))
        (sym (told-append (λ (node : NodeKind) (ins : List (List ℕ)). selects node ins ∷ []) (λ edge. (other edge).text) front (put next edge parts taker back)))

    pub leaves-split : all_hold (asked sources one (front ++ (taker ∷ back))) ≡ true
        → LeavesSame (front ++ (taker ∷ back)) (front ++ put next edge parts taker back) status (moved_status (length front) status) sources one other
    leaves-split asked_before = record { asks = asks_split asked_before; writes = writes_split; selects = selects_split }

-- the graph with a split keeps the flow
split-keeps : (old : Graph) (edge parts place : ℕ) (taker : Cell NodeKind) → Valid old.nodes old.status → 1 ≤ parts → taker_of edge old.nodes ≡ Some place
    → slice_get old.nodes place ≡ Some taker → may_take_parts taker.kind ≡ true → Keeps old (split_graph edge parts old place)
split-keeps old edge parts place taker valid some taken there plain =
    let next : ℕ = length (gives old.nodes) in
    let at : StandsAt old.nodes place taker = stands-at old.nodes place taker there in
    let takes_it : has edge taker.ins ≡ true = taker-takes edge old.nodes place taker taken there in
    let before : IsSound (at.front ++ (taker ∷ at.back)) old.status = subst (λ (cells : List (Cell NodeKind)). IsSound cells old.status) at.whole (sound-valid old.nodes old.status valid) in
    let below : (other : ℕ) → has other (gives (at.front ++ (taker ∷ at.back))) ≡ true → other < next =
    λ other is. valid.edges.below other (ap (λ (cells : List (Cell NodeKind)). has other (gives cells)) at.whole ∙ is) in
    let sound : IsSound (at.front ++ put next edge parts taker at.back) (moved_status (length at.front) old.status) =
    sound-split next edge parts taker at.front at.back old.status some takes_it plain before below in
    let leaves : LeavesAlways old.nodes (at.front ++ put next edge parts taker at.back) old.status (moved_status (length at.front) old.status) =
    subst (λ (cells : List (Cell NodeKind)). LeavesAlways cells (at.front ++ put next edge parts taker at.back) old.status (moved_status (length at.front) old.status)) (sym at.whole)
    (λ sources known one other first second asks. leaves-split next edge parts taker at.front at.back old.status some takes_it plain before.wired sources one other first second asks) in
    let kept : Keeps old (record { nodes = numbered (at.front ++ put next edge parts taker at.back); status = moved_status (length at.front) old.status }) =
    keeps old (at.front ++ put next edge parts taker at.back) (moved_status (length at.front) old.status) valid sound leaves in
    let nodes : at.front ++ put next edge parts taker at.back ≡ replaced (split_cells next edge parts) place old.nodes = sym (at.others (split_cells next edge parts)) in
    subst (λ (number : ℕ). Keeps old (record { nodes = numbered (replaced (split_cells next edge parts) place old.nodes); status = moved_status number old.status })) at.number
    (subst (λ (cells : List (Cell NodeKind)). Keeps old (record { nodes = numbered cells; status = moved_status (length at.front) old.status })) nodes kept)

-- where a split may stand
record Site (edge parts place : ℕ) (cells : List (Cell NodeKind)) : Type 0 where
  some : 1 ≤ parts
  taken : taker_of edge cells ≡ Some place
  taker : Cell NodeKind
  there : slice_get cells place ≡ Some taker
  plain : may_take_parts taker.kind ≡ true

site-inner : (edge parts place : ℕ) (cells : List (Cell NodeKind)) (found : Option ℕ) → 1 ≤ parts → taker_of edge cells ≡ found → site_at cells found ≡ Some place → Site edge parts place cells
site-inner edge parts place cells None some is site = absurd (none-some place site)
site-inner edge parts place cells (Some number) some is site = by_node (slice_get cells number) refl
  where
    chosen : (may_be_split cells number ≡ true) × (number ≡ place)
    chosen = cond_some (may_be_split cells number) number place site

    by_node : (node : Option (Cell NodeKind)) → slice_get cells number ≡ node → Site edge parts place cells
    by_node None absent = absurd (true≢false (sym chosen.0 ∙ ap (λ (it : Option (Cell NodeKind)). option_map_or (λ cell. may_take_parts cell.kind) it false) absent))
    by_node (Some taker) there =
        record {
          some = some;
          taken = is ∙ ap (λ (it : ℕ). Some it) chosen.1;
          taker = taker;
          there = ap (slice_get cells) (sym chosen.1) ∙ there;
          plain = sym (ap (λ (it : Option (Cell NodeKind)). option_map_or (λ cell. may_take_parts cell.kind) it false) there) ∙ chosen.0;
        }

site-is : (edge parts place : ℕ) (cells : List (Cell NodeKind)) → site_of edge parts cells ≡ Some place → Site edge parts place cells
site-is edge parts place cells site = by_parts (may_have_parts parts) refl site
  where
    by_parts : (may : Bool) → may_have_parts parts ≡ may → (if may then site_at cells (taker_of edge cells) else None) ≡ Some place → Site edge parts place cells
    by_parts false is none = absurd (none-some place none)
    by_parts true is found = site-inner edge parts place cells (taker_of edge cells) (leb-true 1 parts (and_parts (nat_le 1 parts) (nat_le parts MAX_PARTS) is).0) refl found

pub site-within : (edge parts place : ℕ) (cells : List (Cell NodeKind)) → site_of edge parts cells ≡ Some place → place < length cells
site-within edge parts place cells site = let at = site-is edge parts place cells site in slice_get_within cells place at.taker at.there

pub site-keeps : (old : Graph) (edge parts place : ℕ) → Valid old.nodes old.status → site_of edge parts old.nodes ≡ Some place → Keeps old (split_graph edge parts old place)
site-keeps old edge parts place valid site =
    let at = site-is edge parts place old.nodes site in split-keeps old edge parts place at.taker valid at.some at.taken at.there at.plain

-- the nodes that are put in, one after another
pub put-in : (cells : List (Cell NodeKind)) (place next edge parts : ℕ) (d : Cell NodeKind) → place < length cells
    → insert (insert (set cells place (turned_cell edge (next + parts) (get_or cells place d))) place (join_cell next parts (get_or cells place d).stage)) place
    (split_cell next edge parts (get_or cells place d).stage)
    ≡ replaced (split_cells next edge parts) place cells
put-in [] place next edge parts d within = absurd (omega (arith, within))
put-in (cell ∷ cells) zero next edge parts d within = refl
put-in (cell ∷ cells) (suc place) next edge parts d within = ap (λ (rest : List (Cell NodeKind)). cell ∷ rest) (put-in cells place next edge parts d (omega (arith, within)))

pub ruleset insert_laws = (site-within, site-keeps, put-in)
