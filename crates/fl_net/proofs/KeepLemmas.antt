-- Where each machine of a graph's plan has kept its equation, each node has: those that are no ends by their machines, a source by what
-- came from outside, a sink since it has no outs, and a node that writes a file and hands on by the outs behind the one to the outside.
use Rattle.std.proofs.Common.{◌≡◌, ℕ, zero, suc, ◌+◌, List, [], ◌∷◌, ◌++◌, Bool, true, false, if◌then◌else◌, length, drop, get_or, slice_get, Option, Some, None, refl, ap, sym, subst, ◌∙◌, append-nil}
use Rattle.std.proofs.Math.Seq.{take-append_seam}
use Rattle.std.proofs.lemmas.Bool.{true≢false}
use Rattle.std.proofs.lemmas.Option.{slice_get_within}
use Rattle.ps_world.specs.Told.{bytes_then, IsEnded}
use Rattle.fl_graph.specs.declared.graphs.Cell.{Cell}
use Rattle.ps_lines.specs.Texts.{BeginsWith}
use Rattle.fl_graph.specs.Runs.{text_of, has_end, completion, is_clean}
use Rattle.fl_graph.specs.Valid.{Valid}
use Rattle.fl_graph.specs.declared.graphs.StatusRule.{StatusRule}
use Rattle.fl_graph.specs.declared.kinds.NodeKind.{NodeKind}
use Rattle.fl_graph.specs.declared.kinds.NodeKind.TheVariants as kind
use Rattle.fl_graph.specs.declared.pieces.Piece.{Piece}
use Rattle.fl_classes.specs.Flow.{Placed, placed, placed_from, is_source, texts_given}
use Rattle.fl_classes.specs.Nodes.{given_on}
use Rattle.fl_classes.specs.Kinds.{is_sink, is_writer, run_kind, run_ins, run_outs}
use Rattle.fl_net.specs.Laws.{Carries, at_ports, given, Keeps, NodesKeep, NetKeeps}
use Rattle.fl_net.specs.Runs.{Plan, Halted}
use Rattle.fl_net.specs.Plans.{outer_edge, IsPlanOf, AreTold}
use Rattle.fl_net.proofs.PieceLemmas.{taken_completes}
use Rattle.fl_net.proofs.PlanLemmas.{source_no_writer, source_has, sink_has, source_edge, writer_edges, own_ins, own_outs}

-- what is due on the first out of the machine of a source, and of a node that writes, is what comes at its one in
owes_source : (node : NodeKind) (ins outs : ℕ) (texts : ℕ → List ℕ) → is_source node ≡ true
    → given_on (run_kind node) (run_ins node ins) (run_outs node outs) texts 0 ≡ texts 0
owes_source (kind.Source source) ins outs texts is = append-nil (texts 0)
owes_source other ins outs texts is = absurd (true≢false (sym is))

pub owes_writer : (node : NodeKind) (ins outs : ℕ) (texts : ℕ → List ℕ) → is_writer node ≡ true → ins ≡ 1
    → given_on (run_kind node) (run_ins node ins) (run_outs node outs) texts 0 ≡ texts 0
owes_writer (kind.Sink sink) ins outs texts is one = ap (λ (ins : ℕ). given_on (kind.Cat false) ins (suc outs) texts 0) one ∙ append-nil (texts 0)
owes_writer (kind.TeeFile path mode) ins outs texts is one = ap (λ (ins : ℕ). given_on (kind.TeeFile path mode) ins (suc outs) texts 0) one
owes_writer other ins outs texts is one = absurd (true≢false (sym is))

-- on the outs behind the one to the outside it is the node's equation
owes_behind : (sources : List (List ℕ)) (number : ℕ) (node : NodeKind) (ins outs : ℕ) (texts : ℕ → List ℕ) (port : ℕ) → is_writer node ≡ true → is_sink node ≡ false
    → given_on (run_kind node) (run_ins node ins) (run_outs node outs) texts (suc port) ≡ given sources (number, node) ins outs texts port
owes_behind sources number (kind.TeeFile path mode) ins outs texts port writes no_sink = refl
owes_behind sources number (kind.Sink sink) ins outs texts port writes no_sink = absurd (true≢false no_sink)
owes_behind sources number other ins outs texts port writes no_sink = absurd (true≢false (sym writes))

-- and on all of any other node
owes_other : (sources : List (List ℕ)) (number : ℕ) (node : NodeKind) (ins outs : ℕ) (texts : ℕ → List ℕ) (port : ℕ) → is_source node ≡ false → is_writer node ≡ false
    → given_on (run_kind node) (run_ins node ins) (run_outs node outs) texts port ≡ given sources (number, node) ins outs texts port
owes_other sources number (kind.Source source) ins outs texts port no_source no_writer = absurd (true≢false no_source)
owes_other sources number (kind.Sink sink) ins outs texts port no_source no_writer = absurd (true≢false no_writer)
owes_other sources number (kind.TeeFile path mode) ins outs texts port no_source no_writer = absurd (true≢false no_writer)
owes_other sources number other ins outs texts port no_source no_writer = refl

-- a source gives its text on its out
given_source : (sources : List (List ℕ)) (number : ℕ) (node : NodeKind) (outs : ℕ) (ins : List (List ℕ)) → is_source node ≡ true
    → texts_given sources number node outs ins ≡ get_or sources number [] ∷ []
given_source sources number (kind.Source source) outs ins is = refl
given_source sources number other outs ins is = absurd (true≢false (sym is))

-- equations that agree are kept alike
Keeps-same : (one other : (ℕ → List ℕ) → ℕ → List ℕ) (taken put : ℕ → List Piece) → ((texts : ℕ → List ℕ) (port : ℕ) → one texts port ≡ other texts port)
    → Keeps one taken put → Keeps other taken put
Keeps-same one other taken put same keeps = record {
  front = λ rest port. subst (λ (text : List ℕ). BeginsWith text (text_of (put port))) (same (completion taken rest) port) (keeps.front rest port);
  whole = λ port ended rest. sym (same (completion taken rest) port) ∙ keeps.whole port ended rest;
}

-- on the outs behind the first an equation is kept where it is on all
Keeps-behind : (equation : (ℕ → List ℕ) → ℕ → List ℕ) (taken put : ℕ → List Piece) (first : ℕ) (edges : List ℕ) → Keeps equation taken (at_ports (first ∷ edges) put)
    → Keeps (λ texts port. equation texts (suc port)) taken (at_ports edges put)
Keeps-behind equation taken put first edges keeps = record { front = λ rest port. keeps.front rest (suc port); whole = λ port. keeps.whole (suc port) }

-- an equation is kept where no piece was put, and where the pieces of the one out carry its text
Keeps-none : (equation : (ℕ → List ℕ) → ℕ → List ℕ) (taken put : ℕ → List Piece) → Keeps equation taken (at_ports [] put)
Keeps-none equation taken put = record { front = λ rest port. refl; whole = λ port ended. absurd (true≢false (sym ended)) }

module _ (equation : (ℕ → List ℕ) → ℕ → List ℕ) (taken put : ℕ → List Piece) (edge : ℕ) (carries : (rest : ℕ → List ℕ) → Carries (put edge) (equation (completion taken rest) 0)) where
  front_one : (rest : ℕ → List ℕ) (port : ℕ) → BeginsWith (equation (completion taken rest) port) (text_of (at_ports (edge ∷ []) put port))
  front_one rest zero = let carried = carries rest in carried.front
  front_one rest (suc port) = refl

  whole_one : (port : ℕ) → has_end (at_ports (edge ∷ []) put port) ≡ true → (rest : ℕ → List ℕ)
      → equation (completion taken rest) port ≡ text_of (at_ports (edge ∷ []) put port)
  whole_one zero ended rest = let carried = carries rest in carried.whole ended
  whole_one (suc port) ended rest = absurd (true≢false (sym ended))

  Keeps-one : Keeps equation taken (at_ports (edge ∷ []) put)
  Keeps-one = record { front = front_one; whole = whole_one }

same_text : (one other : List ℕ) → Some one ≡ Some other → one ≡ other
same_text one other same = cc

-- what comes from outside carries what is told there
told_carries : (text : List ℕ) (before after : Option (List ℕ)) (pieces : List Piece) → before ≡ Some text → before ≡ bytes_then (text_of pieces) after
    → (has_end pieces ≡ true → IsEnded after) → Carries pieces text
told_carries text before None pieces told read ended = absurd (cc)
told_carries text before (Some after) pieces told read ended =
    let whole : text ≡ text_of pieces ++ after = same_text text (text_of pieces ++ after) (sym told ∙ read) in
    record {
      front = subst (λ (it : List ℕ). BeginsWith it (text_of pieces)) (sym whole) (take-append_seam (text_of pieces) after);
      whole = λ closed. whole ∙ ap (λ (rest : List ℕ). text_of pieces ++ rest) (same_text after [] (ended closed)) ∙ append-nil (text_of pieces);
    }

-- a machine that hands on carries over to its first out what its one in carries
module _ (due : (ℕ → List ℕ) → ℕ → List ℕ) (took put waiting : ℕ → List Piece)
    (queued : (edge : ℕ) → put edge ≡ took edge ++ waiting edge) (clean : (edge : ℕ) → is_clean (put edge) ≡ true)
    (from to : ℕ) (behind : List ℕ) (text : List ℕ) where
  pub hands_on : ((texts : ℕ → List ℕ) → due texts 0 ≡ texts 0)
      → Keeps due (at_ports (from ∷ []) took) (at_ports (to ∷ behind) put) → Carries (put from) text → Carries (put to) text
  hands_on owes keeps carries =
      let rest : ℕ → List ℕ = λ port. drop (length (text_of (took from))) text in
      let texts = completion (at_ports (from ∷ []) took) rest in
      let met : due texts 0 ≡ text = owes texts ∙ taken_completes (put from) (took from) (waiting from) text (queued from) (clean from) carries in
      record {
        front = subst (λ (it : List ℕ). BeginsWith it (text_of (put to))) met (keeps.front rest 0);
        whole = λ ended. sym met ∙ keeps.whole 0 ended rest;
      }

-- a node and the number of sources before it stand where the node stands
abbrev pub unplaced : Cell Placed → Cell NodeKind
unplaced cell = record { kind = cell.kind.1; ins = cell.ins; outs = cell.outs; stage = cell.stage }

pub at_unplaced : (number : ℕ) (cells : List (Cell NodeKind)) (node : ℕ) (cell : Cell Placed) → slice_get (placed_from number cells) node ≡ Some cell
    → slice_get cells node ≡ Some (unplaced cell)
at_unplaced number [] node cell at_node = absurd (cc)
at_unplaced number (first ∷ cells) zero cell at_node = ap (λ (found : Option (Cell Placed)). elim found as (λ it. Option (Cell NodeKind)) [ Some it ↦ Some (unplaced it) | None ↦ None ]) at_node
at_unplaced number (first ∷ cells) (suc node) cell at_node = at_unplaced (if is_source first.kind then number + 1 else number) cells node cell at_node

-- each node keeps its equation where the node at each place does
NodesKeep-each : (sources : List (List ℕ)) (cells : List (Cell Placed)) (taken put : ℕ → List Piece)
    → ((node : ℕ) (cell : Cell Placed) → slice_get cells node ≡ Some cell
    → Keeps (given sources cell.kind (length cell.ins) (length cell.outs)) (at_ports cell.ins taken) (at_ports cell.outs put))
    → NodesKeep sources cells taken put
NodesKeep-each sources [] taken put each = tt
NodesKeep-each sources (cell ∷ cells) taken put each = (each 0 cell refl, NodesKeep-each sources cells taken put (λ node. each (suc node)))

module _ (cells : List (Cell NodeKind)) (status : StatusRule) (plan : Plan) (valid : Valid cells status) (planned : IsPlanOf cells plan) (taken : ℕ → Option (List ℕ)) (halted : Halted plan (length cells) taken) where
  -- the machine of a node kept what was due of it at these edges
  pub machine_keeps : (node : ℕ) (cell : Cell NodeKind) (ins outs : List ℕ) → slice_get cells node ≡ Some cell → plan.ins node ≡ ins → plan.outs node ≡ outs
      → Keeps (plan.starts node).due (at_ports ins halted.took) (at_ports outs halted.put)
  machine_keeps node cell ins outs at_node is_ins is_outs =
      subst (λ (edges : List ℕ). Keeps (plan.starts node).due (at_ports edges halted.took) (at_ports outs halted.put)) is_ins
      (subst (λ (edges : List ℕ). Keeps (plan.starts node).due (at_ports (plan.ins node) halted.took) (at_ports edges halted.put)) is_outs
      (halted.keeps node (slice_get_within cells node cell at_node)))

  module _ (sources : List (List ℕ)) (told : AreTold sources cells plan.left) where
    -- a source's text came from outside, and its machine handed it on
    source_carries : (node edge : ℕ) (cell : Cell Placed) → slice_get (placed cells) node ≡ Some cell → is_source cell.kind.1 ≡ true → cell.outs ≡ edge ∷ []
        → Carries (halted.put edge) (get_or sources cell.kind.0 [])
    source_carries node edge cell at_node is outs =
        let at_cell = at_unplaced 0 cells node cell at_node in
        let outer = source_edge cells status plan valid planned node (unplaced cell) at_cell is in
        let reads : plan.reads node ≡ true = planned.reads node (unplaced cell) at_cell ∙ is in
        let begins = planned.begins node (unplaced cell) at_cell in
        hands_on (plan.starts node).due halted.took halted.put halted.waiting halted.queued halted.clean (outer_edge cells node) edge [] (get_or sources cell.kind.0 [])
        (λ texts. begins.owes texts 0 ∙ owes_source cell.kind.1 (length cell.ins) (length cell.outs) texts is)
        (machine_keeps node (unplaced cell) (outer_edge cells node ∷ []) (edge ∷ []) at_cell outer
        (own_outs cells status plan valid planned node (unplaced cell) at_cell (source_no_writer cell.kind.1 is) ∙ outs))
        (told_carries (get_or sources cell.kind.0 []) (plan.left node) (halted.left node) (halted.put (outer_edge cells node)) (told node cell at_node is)
        (halted.read node (outer_edge cells node) reads outer) (halted.ended node (outer_edge cells node) reads outer))

    -- the equation of a node is kept at these edges
    abbrev KeepsAt : Cell Placed → List ℕ → List ℕ → Type 0
    KeepsAt cell ins outs = Keeps (given sources cell.kind (length cell.ins) (length cell.outs)) (at_ports ins halted.took) (at_ports outs halted.put)

    node_keeps : (node : ℕ) (cell : Cell Placed) → slice_get (placed cells) node ≡ Some cell → KeepsAt cell cell.ins cell.outs
    node_keeps node cell at_node = by_ends (is_source cell.kind.1) (is_writer cell.kind.1) (is_sink cell.kind.1) refl refl refl
      where
        at_cell : slice_get cells node ≡ Some (unplaced cell)
        at_cell = at_unplaced 0 cells node cell at_node

        by_ends : (source writer sink : Bool) → is_source cell.kind.1 ≡ source → is_writer cell.kind.1 ≡ writer → is_sink cell.kind.1 ≡ sink → KeepsAt cell cell.ins cell.outs
        by_ends true writer sink is_one is_other is_third =
            let ports = source_has cells status plan valid planned node (unplaced cell) at_cell is_one in
            let carries = source_carries node ports.1.0 cell at_node is_one ports.1.1 in
            subst (λ (outs : List ℕ). KeepsAt cell cell.ins outs) (sym ports.1.1)
            (Keeps-one (given sources cell.kind (length cell.ins) (length cell.outs)) (at_ports cell.ins halted.took) halted.put ports.1.0
            (λ rest. subst (λ (texts : List (List ℕ)). Carries (halted.put ports.1.0) (get_or texts 0 []))
            (sym (given_source sources cell.kind.0 cell.kind.1 (length cell.outs) _ is_one)) carries))
        by_ends false true true no_source writes is_one =
            subst (λ (outs : List ℕ). KeepsAt cell cell.ins outs) (sym (sink_has cells status plan valid planned node (unplaced cell) at_cell is_one))
            (Keeps-none (given sources cell.kind (length cell.ins) (length cell.outs)) (at_ports cell.ins halted.took) halted.put)
        by_ends false true false no_source writes no_sink =
            let begins = planned.begins node (unplaced cell) at_cell in
            Keeps-same (λ texts port. (plan.starts node).due texts (suc port)) (given sources cell.kind (length cell.ins) (length cell.outs)) (at_ports cell.ins halted.took)
            (at_ports cell.outs halted.put)
            (λ texts port. begins.owes texts (suc port) ∙ owes_behind sources cell.kind.0 cell.kind.1 (length cell.ins) (length cell.outs) texts port writes no_sink)
            (Keeps-behind (plan.starts node).due (at_ports cell.ins halted.took) halted.put (outer_edge cells node) cell.outs
            (machine_keeps node (unplaced cell) cell.ins (outer_edge cells node ∷ cell.outs) at_cell
            (own_ins cells status plan valid planned node (unplaced cell) at_cell no_source) (writer_edges cells status plan valid planned node (unplaced cell) at_cell writes)))
        by_ends false false sink no_source no_writer is_third =
            let begins = planned.begins node (unplaced cell) at_cell in
            Keeps-same (plan.starts node).due (given sources cell.kind (length cell.ins) (length cell.outs)) (at_ports cell.ins halted.took) (at_ports cell.outs halted.put)
            (λ texts port. begins.owes texts port ∙ owes_other sources cell.kind.0 cell.kind.1 (length cell.ins) (length cell.outs) texts port no_source no_writer)
            (machine_keeps node (unplaced cell) cell.ins cell.outs at_cell
            (own_ins cells status plan valid planned node (unplaced cell) at_cell no_source) (own_outs cells status plan valid planned node (unplaced cell) at_cell no_writer))

    pub halted_keeps : NetKeeps sources cells halted.took halted.put
    halted_keeps = record {
      waiting = halted.waiting;
      queued = halted.queued;
      clean = halted.clean;
      nodes = NodesKeep-each sources (placed cells) halted.took halted.put node_keeps;
    }
