-- What comes of a graph each of whose nodes has run to its stop: its edges carry its flow, so its ends have grown by their texts.
use Rattle.std.proofs.Common.{◌≡◌, ℕ, zero, suc, ◌+◌, ◌-◌, ◌<◌, ◌==◌, ◌||◌, ◌&&◌, not, Bool, true, false, if◌then◌else◌, List, [], ◌∷◌, ◌++◌, map, length, slice_get, nat_lt, Option, Some, None, is_some, refl, ap, sym, subst, ◌∙◌, arith, append-nil, append_assoc}
use mathlib.Core.Path.{fun_ext}
use Rattle.std.specs.Option.{option_map, option_map_or}
use Rattle.std.proofs.lemmas.Bool.{and_parts, ltb-true, or_parts, or_right, true_from_ne_false, true≢false, lt-ltb}
use Rattle.std.proofs.lemmas.List.Folds.{list_any-append}
use Rattle.std.proofs.lemmas.Grind.{flat_map-append}
use Rattle.std.proofs.lemmas.Option.{slice_get_within}
use Rattle.ps_world.specs.Told.{bytes_then, then_bytes, GrewByPrefix, IsEnded}
use Rattle.ps_world.specs.declared.error.WorldErr.{WorldErr}
use Rattle.fl_graph.specs.Checks.{each_after, takes_given}
use Rattle.fl_graph.specs.Machines.{State, closes}
use Rattle.fl_graph.specs.Net.{gives, has}
use Rattle.fl_graph.specs.Runs.{are_closed, completed, completion, has_broken, has_end, text_of, Run, Stopped, is_clean}
use Rattle.fl_graph.specs.Valid.{Valid}
use Rattle.fl_graph.specs.declared.graphs.Cell.{Cell}
use Rattle.fl_graph.specs.declared.graphs.StatusRule.{StatusRule}
use Rattle.fl_graph.specs.declared.kinds.NodeKind.{NodeKind}
use Rattle.fl_graph.specs.declared.kinds.NodeKind.TheVariants as kind
use Rattle.fl_graph.specs.declared.pieces.Piece.{Piece}
use Rattle.fl_graph.proofs.CheckLemmas.{each_number}
use Rattle.fl_graph.proofs.EdgeLemmas.{leads_on-each}
use Rattle.fl_graph.proofs.ListLemmas.{count-none, holds-has}
use Rattle.fl_graph.proofs.StateLemmas.{closed_ends}
use Rattle.fl_classes.specs.Flow.{flow, is_source, only, selections, selects}
use Rattle.fl_classes.specs.Kinds.{is_sink, is_writer, run_ins, run_kind, run_outs}
use Rattle.fl_classes.specs.Nodes.{Begins, texts_at}
use Rattle.fl_net.specs.Ends.{HasRead, HasWritten, HasWrittenFronts, IsReadOff}
use Rattle.fl_net.specs.Laws.{at_ports, Keeps}
use Rattle.fl_net.specs.Plans.{AreTold, IsPlanOf, edges_in, edges_out, outer_edge}
use Rattle.fl_net.specs.Runs.{Halted, Plan}
use Rattle.fl_net.specs.Starts.{BeginsAs}
use Rattle.fl_net.proofs.FinishLemmas.{halted_writes, writer_carries}
use Rattle.fl_net.proofs.KeepLemmas.{halted_keeps}
use Rattle.fl_net.proofs.LawLemmas.{edge_completed, selections_of_the_flow, texts-values}
use Rattle.fl_net.proofs.PlanLemmas.{own_in_below, own_out_below, source_edge, source_has, writer_edge}
use Rattle.fl_net.proofs.PortLemmas.{port_of, stands-has}
use Rattle.fl_net.proofs.StartLemmas.{no_state}
use Rattle.fl_nodes.specs.Ends.{EndState}
use Rattle.fl_nodes.specs.Work.{Moved, at, side}
use Rattle.fl_threads.specs.Threads.{EachOf}

some_is : {X : Type 0} (one other : X) → Some one ≡ Some other → one ≡ other
some_is one other is = cc

-- where something holds of each of two lists' items in their places, there is one for each
pub each-at : {A B : Type 0} (Holds : A → B → Type 0) (ones : List A) (others : List B) → EachOf Holds ones others → (place : ℕ) (one : A) → slice_get ones place ≡ Some one
    → (other : B) × ((slice_get others place ≡ Some other) × Holds one other)
each-at Holds [] others each place one is = absurd (cc)
each-at Holds (first ∷ ones) [] each place one is = absurd each
each-at Holds (first ∷ ones) (second ∷ others) each zero one is = (second, (refl, subst (λ it. Holds it second) (some_is first one is) each.0))
each-at Holds (first ∷ ones) (second ∷ others) each (suc place) one is = each-at Holds ones others each.1 place one is

pub each-from : {A B : Type 0} (Holds : A → B → Type 0) (ones : List A) (others : List B) → EachOf Holds ones others → (place : ℕ) (other : B) → slice_get others place ≡ Some other
    → (one : A) × ((slice_get ones place ≡ Some one) × Holds one other)
each-from Holds [] [] each place other is = absurd (cc)
each-from Holds [] (second ∷ others) each place other is = absurd each
each-from Holds (first ∷ ones) [] each place other is = absurd each
each-from Holds (first ∷ ones) (second ∷ others) each zero other is = (first, (refl, subst (Holds first) (some_is second other is) each.0))
each-from Holds (first ∷ ones) (second ∷ others) each (suc place) other is = each-from Holds ones others each.1 place other is

-- what two lists tell in their places is told in one order
pub each-tells : {A B Told : Type 0} (Holds : A → B → Type 0) (tell : A → Told) (told : B → Told) (ones : List A) (others : List B) → EachOf Holds ones others
    → ((place : ℕ) (one : A) (other : B) → slice_get ones place ≡ Some one → slice_get others place ≡ Some other → Holds one other → tell one ≡ told other) → map tell ones ≡ map told others
each-tells Holds tell told [] [] each same = refl
each-tells Holds tell told [] (second ∷ others) each same = absurd each
each-tells Holds tell told (first ∷ ones) [] each same = absurd each
each-tells {A} {B} {Told} Holds tell told (first ∷ ones) (second ∷ others) each same =
    ap (λ (it : Told). it ∷ map tell ones) (same 0 first second refl refl each.0)
    ∙ ap (λ (it : List Told). told second ∷ it) (each-tells Holds tell told ones others each.1 (λ place one other. same (suc place) one other))

-- what came of a node: how its machine began and what it is now, and what went over its edges, and to its end or came from there
pub record NodeRun : Type 0 where
  pub start : State
  pub now : State
  pub outside : List Piece
  pub rest : Option (List ℕ)
  pub taken : List (List Piece)
  pub put : List (List Piece)
  pub was : EndState
  pub is : EndState
  pub failure : Option WorldErr
  pub selected : Bool

abbrev pub ins_of : NodeRun → ℕ → List Piece
ins_of run = side run.was.reads run.outside run.taken

abbrev pub outs_of : NodeRun → ℕ → List Piece
outs_of run = side run.was.writes run.outside run.put

-- that of a node, where these pieces went over the edges
pub record RanAt (over : ℕ → List Piece) (cell : Cell NodeKind) (run : NodeRun) : Type 0 where
  pub begins : BeginsAs run.start cell
  pub ran : Run run.start run.now (ins_of run) (outs_of run) (is_some run.failure)
  pub stopped : Stopped run.start run.now (ins_of run) (outs_of run)
  pub moved : Moved run.was run.is run.failure run.outside
  pub rest : run.rest ≡ moved.rest
  pub selects : run.now.broken ≡ false → run.selected ≡ run.now.selects (λ _. [])
  pub taken : run.taken ≡ map over cell.ins
  pub put : run.put ≡ map over cell.outs
  pub reads : run.was.reads ≡ is_source cell.kind
  pub writes : run.was.writes ≡ is_writer cell.kind

at-map : (over : ℕ → List Piece) (edges : List ℕ) (port edge : ℕ) → slice_get edges port ≡ Some edge → at (map over edges) port ≡ over edge
at-map over [] port edge is = absurd (cc)
at-map over (first ∷ edges) zero edge is = ap over (some_is first edge is)
at-map over (first ∷ edges) (suc port) edge is = at-map over edges port edge is

none-at : (over : ℕ → List Piece) (edges : List ℕ) → ((edge : ℕ) → has edge edges ≡ true → has_broken (over edge) ≡ false) → (port : ℕ) → has_broken (at (map over edges) port) ≡ false
none-at over [] none port = refl
none-at over (edge ∷ edges) none zero = none edge (stands-has (edge ∷ edges) 0 edge refl)
none-at over (edge ∷ edges) none (suc port) = none-at over edges (λ other there. none other (or_right (edge == other) (has other edges) there)) port

ports-same : (pieces over : ℕ → List Piece) (edges : List ℕ) → ((edge : ℕ) → has edge edges ≡ true → pieces edge ≡ over edge) → (port : ℕ) → at (map over edges) port ≡ at_ports edges pieces port
ports-same pieces over [] same port = refl
ports-same pieces over (edge ∷ edges) same zero = sym (same edge (stands-has (edge ∷ edges) 0 edge refl))
ports-same pieces over (edge ∷ edges) same (suc port) = ports-same pieces over edges (λ other there. same other (or_right (edge == other) (has other edges) there)) port

-- the pieces of one side of a node are those of its edges, of which the first leads outside where one does
side-same : (pieces over : ℕ → List Piece) (outer : Bool) (outside : List Piece) (edges : List ℕ) (edge : ℕ) → pieces edge ≡ outside
    → ((other : ℕ) → has other edges ≡ true → pieces other ≡ over other) → (port : ℕ) → side outer outside (map over edges) port ≡ at_ports (if outer then edge ∷ edges else edges) pieces port
side-same pieces over true outside edges edge here same zero = sym here
side-same pieces over true outside edges edge here same (suc port) = ports-same pieces over edges same port
side-same pieces over false outside edges edge here same port = ports-same pieces over edges same port

-- a node that hasn't failed, and has taken no Broken, puts none
module _ (over : ℕ → List Piece) (cell : Cell NodeKind) (run : NodeRun) (here : RanAt over cell run) (unfailed : is_some run.failure ≡ false)
    (none : (edge : ℕ) → has edge cell.ins ≡ true → has_broken (over edge) ≡ false) where
  unbroken_in : (outer : Bool) → run.was.reads ≡ outer → (port : ℕ) → has_broken (side outer run.outside run.taken port) ≡ false
  unbroken_in true is zero = here.moved.sound is unfailed
  unbroken_in true is (suc port) = ap (λ (pieces : List (List Piece)). has_broken (at pieces port)) here.taken ∙ none-at over cell.ins none port
  unbroken_in false is port = ap (λ (pieces : List (List Piece)). has_broken (at pieces port)) here.taken ∙ none-at over cell.ins none port

  whole-now : run.now.broken ≡ false
  whole-now = here.ran.caused unfailed (unbroken_in run.was.reads refl)

  unbroken_out : (edge : ℕ) → has edge cell.outs ≡ true → has_broken (over edge) ≡ false
  unbroken_out edge there = by_outer run.was.writes (here.ran.honest whole-now) (port_of cell.outs edge there)
    where
      by_outer : (outer : Bool) → ((port : ℕ) → has_broken (side outer run.outside run.put port) ≡ false) → (port : ℕ) × (slice_get cell.outs port ≡ Some edge) → has_broken (over edge) ≡ false
      by_outer true honest found =
          ap has_broken (sym (ap (λ (pieces : List (List Piece)). at pieces found.0) here.put ∙ at-map over cell.outs found.0 edge found.1)) ∙ honest (suc found.0)
      by_outer false honest found =
          ap has_broken (sym (ap (λ (pieces : List (List Piece)). at pieces found.0) here.put ∙ at-map over cell.outs found.0 edge found.1)) ∙ honest found.0

given_there : (cells : List (Cell NodeKind)) (status : StatusRule) → Valid cells status → (edge : ℕ) → edge < length (gives cells) → has edge (gives cells) ≡ true
given_there cells status valid edge within =
    true_from_ne_false (has edge (gives cells)) (λ none.
    let absent = count-none edge (gives cells) none in
    let once = (each_number cells status valid edge within).0 in
    absurd (omega (arith, absent, once)))

split_or : (one other : Bool) → (one || other) ≡ true → (one ≡ false → other ≡ true)
split_or true other is none = absurd (true≢false none)
split_or false other is none = is

module _ (over : ℕ → List Piece) where
  -- one node after another
  unbroken_all : (before cells : List (Cell NodeKind)) (runs : List NodeRun) → EachOf (RanAt over) cells runs → ((place : ℕ) (run : NodeRun) → slice_get runs place ≡ Some run → is_some run.failure ≡ false)
      → ((edge : ℕ) → has edge (gives before) ≡ true → has_broken (over edge) ≡ false) → each_after takes_given before cells ≡ true
      → (edge : ℕ) → has edge (gives (before ++ cells)) ≡ true → has_broken (over edge) ≡ false
  unbroken_all before [] runs each unfailed none order edge there = none edge (sym (ap (λ (all : List (Cell NodeKind)). has edge (gives all)) (append-nil before)) ∙ there)
  unbroken_all before (cell ∷ cells) [] each unfailed none order edge there = absurd each
  unbroken_all before (cell ∷ cells) (run ∷ runs) each unfailed none order edge there =
      let parts = and_parts (takes_given before cell) (each_after takes_given (before ++ cell ∷ []) cells) order in
      unbroken_all (before ++ cell ∷ []) cells runs each.1 (λ place it is. unfailed (suc place) it is) (none_behind parts.0) parts.1 edge
      (ap (λ (all : List (Cell NodeKind)). has edge (gives all)) (append_assoc before (cell ∷ []) cells) ∙ there)
    where
      none_behind : takes_given before cell ≡ true → (other : ℕ) → has other (gives (before ++ cell ∷ [])) ≡ true → has_broken (over other) ≡ false
      none_behind given other stands =
          by_before (has other (gives before)) refl
          (split_or (has other (gives before)) (has other cell.outs)
          (sym (list_any-append (λ (it : ℕ). it == other) (gives before) cell.outs)
          ∙ ap (has other) (ap (λ (outs : List ℕ). gives before ++ outs) (sym (append-nil cell.outs)) ∙ sym (flat_map-append (λ (it : Cell NodeKind). it.outs) before (cell ∷ []))) ∙ stands))
        where
          by_before : (earlier : Bool) → has other (gives before) ≡ earlier → (has other (gives before) ≡ false → has other cell.outs ≡ true) → has_broken (over other) ≡ false
          by_before true is out = none other is
          by_before false is out =
              unbroken_out over cell run each.0 (unfailed 0 run refl) (λ taken there. none taken (holds-has (λ (it : ℕ). has it (gives before)) taken cell.ins given there)) other (out is)

-- the machines of ends select nothing, as ends do, and any other selects what its node does
selects_end : (node : NodeKind) (texts ins : List (List ℕ)) → (is_source node || is_sink node) ≡ true → selects (run_kind node) texts ≡ selects node ins
selects_end (kind.Source source) texts ins is = refl
selects_end (kind.Sink sink) texts ins is = refl
selects_end other texts ins is = absurd (true≢false (sym is))

selects_other : (node : NodeKind) (ins : ℕ) (texts : ℕ → List ℕ) → (is_source node || is_sink node) ≡ false → selects (run_kind node) (texts_at (run_ins node ins) texts) ≡ selects node (texts_at ins texts)
selects_other (kind.Source source) ins texts is = absurd (true≢false is)
selects_other (kind.Sink sink) ins texts is = absurd (true≢false is)
selects_other other ins texts is = refl

-- what was read of a text up to its end is all of it
read_off : (text : List ℕ) (before after : Option (List ℕ)) → before ≡ bytes_then text after → IsEnded after → IsReadOff before after
read_off text before None is ended = ap (λ (told : Option (List ℕ)). option_map (λ (bytes : List ℕ). []) told) (sym is)
read_off text before (Some left) is ended = ended ∙ ap (λ (told : Option (List ℕ)). option_map (λ (bytes : List ℕ). []) told) (sym is)

module _ (cells : List (Cell NodeKind)) (status : StatusRule) (valid : Valid cells status) (runs : List NodeRun) (over : ℕ → List Piece)
    (clean : (edge : ℕ) → edge < length (gives cells) → is_clean (over edge) ≡ true) (each : EachOf (RanAt over) cells runs)
    (left left' taken taken' : ℕ → Option (List ℕ))
    (left_is : (node : ℕ) (run : NodeRun) → slice_get runs node ≡ Some run → run.was.left ≡ left node)
    (left_is' : (node : ℕ) (run : NodeRun) → slice_get runs node ≡ Some run → run.is.left ≡ left' node)
    (taken_is : (node : ℕ) (run : NodeRun) → slice_get runs node ≡ Some run → run.was.taken ≡ taken node)
    (taken_is' : (node : ℕ) (run : NodeRun) → slice_get runs node ≡ Some run → run.is.taken ≡ taken' node) where
  abbrev outside_of : Option NodeRun → List Piece
  outside_of found = option_map_or (λ (run : NodeRun). run.outside) found []

  -- the pieces of all edges, those that lead outside too
  pieces : ℕ → List Piece
  pieces edge = if nat_lt edge (length (gives cells)) then over edge else outside_of (slice_get runs (edge - length (gives cells)))

  pieces-own : (edge : ℕ) → edge < length (gives cells) → pieces edge ≡ over edge
  unfolding pieces
  pieces-own edge within =
      ap (λ (test : Bool). if test then over edge else outside_of (slice_get runs (edge - length (gives cells)))) (lt-ltb edge (length (gives cells)) within)

  pieces-outer : (node : ℕ) (run : NodeRun) → slice_get runs node ≡ Some run → pieces (outer_edge cells node) ≡ run.outside
  unfolding pieces
  pieces-outer node run found =
      let place : (length (gives cells) + node) - length (gives cells) ≡ node = omega arith in
      ap (λ (test : Bool). if test then over (outer_edge cells node) else outside_of (slice_get runs ((length (gives cells) + node) - length (gives cells)))) (behind (length (gives cells)))
      ∙ ap (λ (it : ℕ). outside_of (slice_get runs it)) place
      ∙ ap outside_of found
    where
      behind : (count : ℕ) → nat_lt (count + node) count ≡ false
      behind count = by_test (nat_lt (count + node) count) refl
        where
          by_test : (test : Bool) → nat_lt (count + node) count ≡ test → test ≡ false
          by_test true is = let low = ltb-true (count + node) count is in absurd (omega (arith, low))
          by_test false is = refl

  plan : Plan
  plan = record {
    ins = λ node. option_map_or (edges_in cells node) (slice_get cells node) [];
    outs = λ node. option_map_or (edges_out cells node) (slice_get cells node) [];
    starts = λ node. option_map_or (λ (run : NodeRun). run.start) (slice_get runs node) no_state;
    reads = λ node. option_map_or (λ (cell : Cell NodeKind). is_source cell.kind) (slice_get cells node) false;
    writes = λ node. option_map_or (λ (cell : Cell NodeKind). is_writer cell.kind) (slice_get cells node) false;
    left = left;
    taken = taken;
    failed = λ node. option_map_or (λ (run : NodeRun). is_some run.failure) (slice_get runs node) false;
  }

  run_of : (node : ℕ) (cell : Cell NodeKind) → slice_get cells node ≡ Some cell → (run : NodeRun) × ((slice_get runs node ≡ Some run) × RanAt over cell run)
  run_of node cell at_node = each-at (RanAt over) cells runs each node cell at_node

  starts-at : (node : ℕ) (run : NodeRun) → slice_get runs node ≡ Some run → plan.starts node ≡ run.start
  unfolding plan
  starts-at node run found = ap (λ (it : Option NodeRun). option_map_or (λ (run : NodeRun). run.start) it no_state) found

  planned : IsPlanOf cells plan
  unfolding plan
  planned = record {
    ins = λ node cell at_node. ap (λ (found : Option (Cell NodeKind)). option_map_or (edges_in cells node) found []) at_node;
    outs = λ node cell at_node. ap (λ (found : Option (Cell NodeKind)). option_map_or (edges_out cells node) found []) at_node;
    reads = λ node cell at_node. ap (λ (found : Option (Cell NodeKind)). option_map_or (λ (it : Cell NodeKind). is_source it.kind) found false) at_node;
    writes = λ node cell at_node. ap (λ (found : Option (Cell NodeKind)). option_map_or (λ (it : Cell NodeKind). is_writer it.kind) found false) at_node;
    no_ins = λ node none. ap (λ (found : Option (Cell NodeKind)). option_map_or (edges_in cells node) found []) none;
    no_outs = λ node none. ap (λ (found : Option (Cell NodeKind)). option_map_or (edges_out cells node) found []) none;
    no_reads = λ node none. ap (λ (found : Option (Cell NodeKind)). option_map_or (λ (it : Cell NodeKind). is_source it.kind) found false) none;
    no_writes = λ node none. ap (λ (found : Option (Cell NodeKind)). option_map_or (λ (it : Cell NodeKind). is_writer it.kind) found false) none;
    begins = λ node cell at_node.
        let found = run_of node cell at_node in
        subst (λ (start : State). Begins (run_kind cell.kind) (run_ins cell.kind (length cell.ins)) (run_outs cell.kind (length cell.outs)) start)
        (sym (starts-at node found.0 found.1.0)) found.1.1.begins;
  }

  module _ (node : ℕ) (cell : Cell NodeKind) (at_node : slice_get cells node ≡ Some cell) (run : NodeRun) (found : slice_get runs node ≡ Some run) (here : RanAt over cell run) where
    ins_same : ins_of run ≡ at_ports (plan.ins node) pieces
    ins_same =
        ap (λ (all : List (List Piece)). side run.was.reads run.outside all) here.taken
        ∙ ap (λ (outer : Bool). side outer run.outside (map over cell.ins)) here.reads
        ∙ fun_ext (λ (port : ℕ). side-same pieces over (is_source cell.kind) run.outside cell.ins (outer_edge cells node) (pieces-outer node run found)
        (λ other there. pieces-own other (own_in_below cells status plan valid planned node other cell at_node there)) port)
        ∙ ap (λ (edges : List ℕ). at_ports edges pieces) (alone (is_source cell.kind) refl ∙ sym (planned.ins node cell at_node))
      where
        alone : (source : Bool) → is_source cell.kind ≡ source → (if source then outer_edge cells node ∷ cell.ins else cell.ins) ≡ (if source then outer_edge cells node ∷ [] else cell.ins)
        alone true is = ap (λ (edges : List ℕ). outer_edge cells node ∷ edges) (source_has cells status plan valid planned node cell at_node is).0
        alone false is = refl

    outs_same : outs_of run ≡ at_ports (plan.outs node) pieces
    outs_same =
        ap (λ (all : List (List Piece)). side run.was.writes run.outside all) here.put
        ∙ ap (λ (outer : Bool). side outer run.outside (map over cell.outs)) here.writes
        ∙ fun_ext (λ (port : ℕ). side-same pieces over (is_writer cell.kind) run.outside cell.outs (outer_edge cells node) (pieces-outer node run found)
        (λ other there. pieces-own other (own_out_below cells status plan valid planned node other cell at_node there)) port)
        ∙ ap (λ (edges : List ℕ). at_ports edges pieces) (sym (planned.outs node cell at_node))

    keeps-here : Keeps (plan.starts node).due (at_ports (plan.ins node) pieces) (at_ports (plan.outs node) pieces)
    keeps-here =
        subst (λ (start : State). Keeps start.due (at_ports (plan.ins node) pieces) (at_ports (plan.outs node) pieces)) (sym (starts-at node run found))
        (subst (λ (took : ℕ → List Piece). Keeps run.start.due took (at_ports (plan.outs node) pieces)) ins_same
        (subst (λ (put : ℕ → List Piece). Keeps run.start.due (ins_of run) put) outs_same
        (record { front = here.ran.texts.front; whole = here.ran.texts.ended })))

  clean_all : (edge : ℕ) → is_clean (pieces edge) ≡ true
  unfolding pieces
  clean_all edge = by_test (nat_lt edge (length (gives cells))) refl
    where
      by_run : (found : Option NodeRun) → slice_get runs (edge - length (gives cells)) ≡ found → is_clean (outside_of found) ≡ true
      by_run None is = refl
      by_run (Some run) is =
          let its = each-from (RanAt over) cells runs each (edge - length (gives cells)) run is in
          its.1.1.moved.clean

      by_test : (test : Bool) → nat_lt edge (length (gives cells)) ≡ test
          → is_clean (if test then over edge else outside_of (slice_get runs (edge - length (gives cells)))) ≡ true
      by_test true is = clean edge (ltb-true edge (length (gives cells)) is)
      by_test false is = by_run (slice_get runs (edge - length (gives cells))) refl

  -- a node that reads, and one that writes, with what came of it
  record IsRunAt (ends : NodeKind → Bool) (node : ℕ) : Type 0 where
    cell : Cell NodeKind
    at_node : slice_get cells node ≡ Some cell
    is : ends cell.kind ≡ true
    run : NodeRun
    found : slice_get runs node ≡ Some run
    here : RanAt over cell run

  run_at : (ends : NodeKind → Bool) (node : ℕ) → option_map_or (λ (cell : Cell NodeKind). ends cell.kind) (slice_get cells node) false ≡ true → IsRunAt ends node
  run_at ends node test = by_cell (slice_get cells node) refl test
    where
      by_cell : (found : Option (Cell NodeKind)) → slice_get cells node ≡ found → option_map_or (λ (cell : Cell NodeKind). ends cell.kind) found false ≡ true → IsRunAt ends node
      by_cell None at_node test = absurd (true≢false (sym test))
      by_cell (Some cell) at_node test =
          let found = run_of node cell at_node in
          record { cell = cell; at_node = at_node; is = test; run = found.0; found = found.1.0; here = found.1.1 }

  first_is : (one other : ℕ) → one ∷ [] ≡ other ∷ [] → other ≡ one
  first_is one other same = cc

  first_at : (one other : ℕ) → Some one ≡ Some other → other ≡ one
  first_at one other same = cc

  abbrev rest_of : ℕ → Option (List ℕ)
  rest_of node = option_map_or (λ (run : NodeRun). run.rest) (slice_get runs node) None

  rest-at : (node : ℕ) (run : NodeRun) → slice_get runs node ≡ Some run → rest_of node ≡ run.rest
  rest-at node run found = ap (λ (it : Option NodeRun). option_map_or (λ (run : NodeRun). run.rest) it None) found

  halted : Halted plan (length cells) taken'
  unfolding plan
  halted = record {
    took = pieces;
    put = pieces;
    waiting = λ edge. [];
    queued = λ edge. sym (append-nil (pieces edge));
    clean = clean_all;
    keeps = λ node within. keeps-at node within;
    left = rest_of;
    read = λ node edge reads is.
        let its = run_at is_source node reads in
        let outer : edge ≡ outer_edge cells node = first_is (outer_edge cells node) edge (sym (source_edge cells status plan valid planned node its.cell its.at_node its.is) ∙ is) in
        sym (left_is node its.run its.found)
        ∙ its.here.moved.read (its.here.reads ∙ its.is)
        ∙ ap (λ (text : List Piece). bytes_then (text_of text) its.here.moved.rest) (sym (ap pieces outer ∙ pieces-outer node its.run its.found))
        ∙ ap (bytes_then (text_of (pieces edge))) (sym (rest-at node its.run its.found ∙ its.here.rest));
    ended = λ node edge reads is ended.
        let its = run_at is_source node reads in
        let outer : edge ≡ outer_edge cells node = first_is (outer_edge cells node) edge (sym (source_edge cells status plan valid planned node its.cell its.at_node its.is) ∙ is) in
        subst IsEnded (sym (rest-at node its.run its.found ∙ its.here.rest))
        (its.here.moved.ended (its.here.reads ∙ its.is) (ap has_end (sym (ap pieces outer ∙ pieces-outer node its.run its.found)) ∙ ended));
    written = λ node edge writes is.
        let its = run_at is_writer node writes in
        let outer : edge ≡ outer_edge cells node = first_at (outer_edge cells node) edge (sym (writer_edge cells status plan valid planned node its.cell its.at_node its.is) ∙ is) in
        subst (λ (text : List Piece). GrewByPrefix (taken node) (taken' node) (text_of text)) (sym (ap pieces outer ∙ pieces-outer node its.run its.found))
        (subst (λ (told : Option (List ℕ)). GrewByPrefix (taken node) told (text_of its.run.outside)) (taken_is' node its.run its.found)
        (subst (λ (told : Option (List ℕ)). GrewByPrefix told its.run.is.taken (text_of its.run.outside)) (taken_is node its.run its.found)
        (its.here.moved.front (its.here.writes ∙ its.is))));
  }
    where
      keeps-at : (node : ℕ) → node < length cells → Keeps (plan.starts node).due (at_ports (plan.ins node) pieces) (at_ports (plan.outs node) pieces)
      keeps-at node within =
          let it = cell_at cells node within in
          let found = run_of node it.0 it.1 in
          keeps-here node it.0 it.1 found.0 found.1.0 found.1.1
        where
          cell_at : (items : List (Cell NodeKind)) (place : ℕ) → place < length items → (cell : Cell NodeKind) × (slice_get items place ≡ Some cell)
          cell_at [] place within = absurd (omega (arith, within))
          cell_at (first ∷ items) zero within = (first, refl)
          cell_at (first ∷ items) (suc place) within = cell_at items place (omega (arith, within))

  -- whatever comes, the end of each node that writes has grown by a front of its text
  pub ran_fronts : HasWrittenFronts cells left taken taken'
  unfolding plan
  ran_fronts sources told node cell at_node writes = halted_writes cells status plan valid planned taken' halted sources told node cell at_node writes

  -- where no node has failed
  module _ (unfailed : (node : ℕ) (run : NodeRun) → slice_get runs node ≡ Some run → is_some run.failure ≡ false) where
    unbroken : (edge : ℕ) → has edge (gives cells) ≡ true → has_broken (over edge) ≡ false
    unbroken = unbroken_all over [] cells runs each unfailed (λ edge there. absurd (true≢false (sym there))) (sym (leads_on-each cells) ∙ valid.edges.later)

    module _ (node : ℕ) (cell : Cell NodeKind) (at_node : slice_get cells node ≡ Some cell) (run : NodeRun) (found : slice_get runs node ≡ Some run) (here : RanAt over cell run) where
      none_in : (edge : ℕ) → has edge cell.ins ≡ true → has_broken (over edge) ≡ false
      none_in edge there = unbroken edge (in_given edge there)
        where
          in_given : (edge : ℕ) → has edge cell.ins ≡ true → has edge (gives cells) ≡ true
          in_given edge there = given_there cells status valid edge (own_in_below cells status plan valid planned node edge cell at_node there)

      its_whole : run.now.broken ≡ false
      its_whole = whole-now over cell run here (unfailed node run found) none_in

      -- an in of its own that is closed has its end
      own_ended : (port edge : ℕ) → slice_get cell.ins port ≡ Some edge → is_source cell.kind ≡ false → has_end (over edge) ≡ true
      own_ended port edge stands no_source =
          closed_ends (over edge)
          (ap are_closed (sym (ap (λ (outer : Bool). side outer run.outside run.taken port) (here.reads ∙ no_source) ∙ ap (λ (all : List (List Piece)). at all port) here.taken ∙ at-map over cell.ins port edge stands))
          ∙ here.stopped.ins port
          (here.begins.takes_all port ∙ ap (λ (test : Bool). nat_lt port (if test then 1 else length cell.ins)) no_source ∙ lt-ltb port (length cell.ins) (slice_get_within cell.ins port edge stands)))
          (none_in edge (stands-has cell.ins port edge stands))

      ins_come : (sources : List (List ℕ)) → AreTold sources cells left → is_source cell.kind ≡ false → (rest : ℕ → List ℕ)
          → texts_at (length cell.ins) (completion (ins_of run) rest) ≡ map (flow cells sources) cell.ins
      unfolding plan halted
      ins_come sources told no_source rest =
          texts-values cell.ins (flow cells sources) (completion (ins_of run) rest) 0
          (λ port edge stands.
          let first : 0 + port ≡ port = omega arith in
          let below = own_in_below cells status plan valid planned node edge cell at_node (stands-has cell.ins port edge stands) in
          let own : ins_of run port ≡ pieces edge =
          ap (λ (outer : Bool). side outer run.outside run.taken port) (here.reads ∙ no_source) ∙ ap (λ (all : List (List Piece)). at all port) here.taken ∙ at-map over cell.ins port edge stands
          ∙ sym (pieces-own edge below) in
          ap (completion (ins_of run) rest) first
          ∙ ap (λ (came : List Piece). completed came (rest port)) own
          ∙ edge_completed cells status valid sources pieces pieces (halted_keeps cells status plan valid planned taken' halted sources told) edge below
          (ap has_end (pieces-own edge below) ∙ own_ended port edge stands no_source) (rest port))

      its_selects : (sources : List (List ℕ)) → AreTold sources cells left → selects cell.kind (map (flow cells sources) cell.ins) ≡ run.selected
      its_selects sources told =
          sym
          (here.selects its_whole
          ∙ sym (here.stopped.selection its_whole (λ _. []))
          ∙ here.begins.may_select (completion (ins_of run) (λ _. []))
          ∙ by_end (is_source cell.kind || is_sink cell.kind) (completion (ins_of run) (λ _. [])) refl (λ no_source. ins_come sources told no_source (λ _. [])))
        where
          by_end : (test : Bool) (texts : ℕ → List ℕ) → (is_source cell.kind || is_sink cell.kind) ≡ test
              → (is_source cell.kind ≡ false → texts_at (length cell.ins) texts ≡ map (flow cells sources) cell.ins)
              → selects (run_kind cell.kind) (texts_at (run_ins cell.kind (length cell.ins)) texts) ≡ selects cell.kind (map (flow cells sources) cell.ins)
          by_end true texts is come = selects_end cell.kind (texts_at (run_ins cell.kind (length cell.ins)) texts) (map (flow cells sources) cell.ins) is
          by_end false texts is come =
              selects_other cell.kind (length cell.ins) texts is ∙ ap (selects cell.kind) (come (or_parts (is_source cell.kind) (is_sink cell.kind) is).0)

      its_read : is_source cell.kind ≡ true → IsReadOff (left node) (left' node)
      its_read source =
          let reads : run.was.reads ≡ true = here.reads ∙ source in
          let opened : run.start.takes 0 ≡ true = here.begins.takes_all 0 ∙ ap (λ (test : Bool). nat_lt 0 (if test then 1 else length cell.ins)) source in
          let closed : are_closed run.outside ≡ true = ap (λ (outer : Bool). are_closed (side outer run.outside run.taken 0)) (sym reads) ∙ here.stopped.ins 0 opened in
          let ended = closed_ends run.outside closed (here.moved.sound reads (unfailed node run found)) in
          subst (λ (told : Option (List ℕ)). IsReadOff told (left' node)) (left_is node run found)
          (subst (IsReadOff run.was.left) (left_is' node run found)
          (subst (IsReadOff run.was.left) (sym (here.moved.unread reads (unfailed node run found)))
          (read_off (text_of run.outside) run.was.left here.moved.rest (here.moved.read reads) (here.moved.ended reads ended))))

      its_written : (sources : List (List ℕ)) → AreTold sources cells left → is_writer cell.kind ≡ true → taken' node ≡ then_bytes (taken node) (only (map (flow cells sources) cell.ins))
      unfolding plan halted
      its_written sources told writes =
          let carries = writer_carries cells status plan valid planned taken' halted sources told node cell at_node writes in
          let its : run.was.writes ≡ true = here.writes ∙ writes in
          let opened : run.start.puts 0 ≡ true =
          here.begins.puts_all 0 ∙ ap (λ (test : Bool). nat_lt 0 (if test then suc (length cell.outs) else length cell.outs)) writes ∙ lt-ltb 0 (suc (length cell.outs)) (omega arith) in
          let ended : has_end run.outside ≡ true = ap (λ (outer : Bool). has_end (side outer run.outside run.put 0)) (sym its) ∙ here.stopped.ended its_whole 0 opened in
          let outer = pieces-outer node run found in
          sym (taken_is' node run found)
          ∙ here.moved.written its (unfailed node run found)
          ∙ ap (λ (told : Option (List ℕ)). then_bytes told (text_of run.outside)) (taken_is node run found)
          ∙ ap (then_bytes (taken node)) (ap text_of (sym outer) ∙ sym (carries.whole (ap has_end outer ∙ ended)))

    pub ran_written : HasWritten cells left taken taken'
    ran_written sources told node cell at_node writes =
        let found = run_of node cell at_node in its_written node cell at_node found.0 found.1.0 found.1.1 sources told writes

    pub ran_read : HasRead cells left left'
    ran_read node cell at_node source = let found = run_of node cell at_node in its_read node cell at_node found.0 found.1.0 found.1.1 source

    pub ran_selects : (sources : List (List ℕ)) → AreTold sources cells left → selections cells sources ≡ map (λ run. run.selected) runs
    ran_selects sources told =
        selections_of_the_flow cells status valid sources
        ∙ each-tells (RanAt over) (λ (cell : Cell NodeKind). selects cell.kind (map (flow cells sources) cell.ins)) (λ (run : NodeRun). run.selected) cells runs each
        (λ node cell run at_node found here. its_selects node cell at_node run found here sources told)
