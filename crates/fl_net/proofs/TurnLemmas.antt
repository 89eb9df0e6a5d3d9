-- What goes over a network's outer edges goes on with its run.
use Rattle.std.proofs.Common.{◌≡◌, ℕ, ◌==◌, ◌<◌, List, [], ◌∷◌, ◌++◌, Bool, true, false, not, length, slice_get, slice_set, get_or, drop, Option, Some, Result, Ok, Err, OnOk, OnErr, refl, ap, sym, subst, ◌∙◌, arith, eq-eqb}
use Rattle.std.specs.List.{list_all}
use Rattle.std.proofs.lemmas.Bool.{and_parts, true≢false}
use Rattle.std.proofs.lemmas.List.{get_or-set_same, get_or-set_other}
use Rattle.std.proofs.lemmas.Option.{get_or_from_slice_get, slice_get_read, slice_get_within}
use mathlib.Core.Path.{fun_ext}
use Rattle.ps_world.specs.Told.{bytes_then, then_bytes, GrewByPrefix, IsEnded}
use Rattle.fl_graph.specs.Machines.{State, is_broken, is_mark}
use Rattle.fl_graph.specs.Runs.{text_of, is_end}
use Rattle.fl_graph.specs.declared.pieces.Piece.{Piece}
use Rattle.fl_net.specs.Steps.{has_bytes, is_plain, waiting_on, CameTo, SameBut, Starves, WentFrom}
use Rattle.fl_net.specs.Runs.{Plan, IsWired, Follows, Reached, Halted, Leads, Halts, Goes, HasEnds}
use Rattle.fl_net.specs.declared.nets.Ports.{Ports}
use Rattle.fl_net.proofs.ReachLemmas.{reached_came}
use Rattle.fl_net.proofs.OutsideLemmas.{some_at, reached_went, reached_halted, part_halted}

-- the wires behind a change of one
set_there : (wires : List (List Piece)) (edge : ℕ) (pieces : List Piece) → edge < length wires → waiting_on (slice_set wires edge pieces) edge ≡ pieces
set_there wires edge pieces within = get_or-set_same wires edge pieces [] within

set_others : (wires : List (List Piece)) (edge : ℕ) (pieces : List Piece) → SameBut edge wires (slice_set wires edge pieces)
set_others wires edge pieces other apart = get_or-set_other wires edge other pieces [] (λ same. true≢false (sym (eq-eqb other edge same) ∙ apart))

first_of : (edges : List ℕ) (edge : ℕ) → edges ≡ edge ∷ [] → get_or edges 0 0 ≡ edge
first_of edges edge is = ap (λ (it : List ℕ). get_or it 0 0) is

-- a piece between others is no mark where none of them is
plain_within : (front : List Piece) (piece : Piece) (back : List Piece) → list_all is_plain (front ++ piece ∷ back) ≡ true → is_mark piece ≡ false
plain_within [] piece back plain = denied (is_mark piece) (and_parts (is_plain piece) (list_all is_plain back) plain).0
  where
    denied : (test : Bool) → not test ≡ true → test ≡ false
    denied true is = sym is
    denied false is = refl
plain_within (first ∷ front) piece back plain = plain_within front piece back (and_parts (is_plain first) (list_all is_plain (front ++ piece ∷ back)) plain).1

module _ {Machine : Type 0} (state : Machine → State) (ports : List Ports) (machines : List Machine) (wires : List (List Piece)) (left left' taken taken' : ℕ → Option (List ℕ))
    (node : ℕ) (own : Ports) (at_own : slice_get ports node ≡ Some own) where
  -- a piece was read
  pub read_leads : (machine : Machine) (piece : Piece) → slice_get machines node ≡ Some machine → own.reads ≡ true → Starves (state machine) own.ins.items wires
      → get_or own.ins.items 0 0 < length wires
      → is_plain piece ≡ true → is_broken piece ≡ false → has_bytes piece ≡ true → left node ≡ bytes_then (text_of (piece ∷ [])) (left' node) → (is_end piece ≡ true → IsEnded (left' node))
      → ((other : ℕ) → (other == node) ≡ false → left' other ≡ left other) → ((other : ℕ) → taken' other ≡ taken other)
      → Leads state ports machines machines wires (slice_set wires (get_or own.ins.items 0 0) (waiting_on wires (get_or own.ins.items 0 0) ++ piece ∷ [])) left left' taken taken'
  read_leads machine piece at reads starves within plain whole sized bytes ended elsewhere same plan wired follows reached =
      let reading = follows.reads node own at_own ∙ reads in
      let ins = follows.ins node own at_own in
      let one = wired.one_in node reading in
      let edge_is : one.0 ≡ get_or own.ins.items 0 0 = sym (first_of own.ins.items one.0 (sym ins ∙ one.1)) in
      let only = one.1 ∙ ap (λ (edge : ℕ). edge ∷ []) edge_is in
      subst (λ (told : ℕ → Option (List ℕ)). Reached state plan machines (slice_set wires (get_or own.ins.items 0 0) (waiting_on wires (get_or own.ins.items 0 0) ++ piece ∷ [])) left' told)
      (sym (fun_ext same))
      (reached_came state plan wired machines wires (slice_set wires (get_or own.ins.items 0 0) (waiting_on wires (get_or own.ins.items 0 0) ++ piece ∷ [])) left left' taken node
      (get_or own.ins.items 0 0) machine piece at reading only
      (subst (λ (edges : List ℕ). Starves (state machine) edges wires) (sym ins) starves)
      (record {
        last = set_there wires (get_or own.ins.items 0 0) (waiting_on wires (get_or own.ins.items 0 0) ++ piece ∷ []) within;
        others = set_others wires (get_or own.ins.items 0 0) (waiting_on wires (get_or own.ins.items 0 0) ++ piece ∷ []);
        plain = plain;
        whole = whole;
        sized = sized;
        bytes = bytes;
        ended = ended;
        elsewhere = elsewhere;
      })
      reached)

  -- nothing was written at a halt
  pub same_halts : ((other : ℕ) → taken' other ≡ taken other) → Halts state ports machines wires left taken taken'
  same_halts same plan wired follows reached = reached_halted state plan wired machines wires left taken taken' reached same

  module _ (piece : Piece) (rest : List Piece) (writes : own.writes ≡ true) (within : get_or own.outs.items 0 0 < length wires)
      (waits : waiting_on wires (get_or own.outs.items 0 0) ≡ piece ∷ rest) (elsewhere : (other : ℕ) → (other == node) ≡ false → taken' other ≡ taken other) where
    outer_out : (plan : Plan) → IsWired plan → Follows plan ports (length wires) → slice_get (plan.outs node) 0 ≡ Some (get_or own.outs.items 0 0)
    outer_out plan wired follows =
        let one = wired.first_out node (follows.writes node own at_own ∙ writes) in
        let there : slice_get own.outs.items 0 ≡ Some one.0 = ap (λ (edges : List ℕ). slice_get edges 0) (sym (follows.outs node own at_own)) ∙ one.1 in
        one.1 ∙ ap (λ (edge : ℕ). Some edge) (sym (get_or_from_slice_get own.outs.items 0 one.0 0 there))

    -- it is no mark, since none waits
    unmarked : (plan : Plan) → Reached state plan machines wires left taken → is_mark piece ≡ false
    unmarked plan reached =
        let edge = get_or own.outs.items 0 0 in
        plain_within (reached.took edge) piece rest
        (ap (list_all is_plain) (ap (λ (pieces : List Piece). reached.took edge ++ pieces) (sym waits) ∙ sym (reached.queued edge)) ∙ reached.plain edge)

    -- a piece was written
    pub write_leads : (is_mark piece ≡ false → taken' node ≡ then_bytes (taken node) (text_of (piece ∷ []))) → ((other : ℕ) → left' other ≡ left other)
        → Leads state ports machines machines wires (slice_set wires (get_or own.outs.items 0 0) rest) left left' taken taken'
    write_leads grew same plan wired follows reached =
        subst (λ (told : ℕ → Option (List ℕ)). Reached state plan machines (slice_set wires (get_or own.outs.items 0 0) rest) told taken') (sym (fun_ext same))
        (reached_went state plan wired machines wires (slice_set wires (get_or own.outs.items 0 0) rest) left taken taken' node (get_or own.outs.items 0 0) piece
        (follows.writes node own at_own ∙ writes) (outer_out plan wired follows)
        (record {
          first = waits ∙ ap (λ (pieces : List Piece). piece ∷ pieces) (sym (set_there wires (get_or own.outs.items 0 0) rest within));
          others = set_others wires (get_or own.outs.items 0 0) rest;
        })
        (grew (unmarked plan reached)) elsewhere reached)

    -- or a front of it
    pub write_halts : GrewByPrefix (taken node) (taken' node) (text_of (piece ∷ [])) → Halts state ports machines wires left taken taken'
    write_halts grew plan wired follows reached =
        part_halted state plan wired machines wires left taken taken' reached node (get_or own.outs.items 0 0) piece rest
        (follows.writes node own at_own ∙ writes) (outer_out plan wired follows) waits grew elsewhere

-- the first edge, whatever stands in the place of none
pub edge_at : (edges : List ℕ) (edge : ℕ) → 0 < length edges → edge ≡ get_or edges 0 edge → edge ≡ get_or edges 0 0
edge_at [] edge some is = absurd (omega (arith, some))
edge_at (first ∷ edges) edge some is = is

pub wire_at : (wires : List (List Piece)) (edge : ℕ) (wire : List Piece) → edge < length wires → wire ≡ get_or wires edge wire → wire ≡ waiting_on wires edge
wire_at wires edge wire within is = sym (get_or_from_slice_get wires edge wire [] (slice_get_read wires (length wires) edge wire refl within is))

-- what follows from an answer follows from it under the answer
pub on_ok_map : {T E P Q : Type 0} (result : Result T E) → OnOk result P → (P → Q) → OnOk result Q
on_ok_map (Ok value) holds then = then holds
on_ok_map (Err error) holds then = tt

pub on_err_map : {T E P Q : Type 0} (result : Result T E) → OnErr result P → (P → Q) → OnErr result Q
on_err_map (Ok value) holds then = tt
on_err_map (Err error) holds then = then holds

-- the code's own look at a node's edge
module _ {Machine : Type 0} (state : Machine → State) (ports : List Ports) (machines : List Machine) (wires : List (List Piece)) (left left' taken taken' : ℕ → Option (List ℕ))
    (node edge : ℕ) (found : Ports) (at_found : slice_get ports node ≡ Some found) (within : edge < length wires) where
  same_own : (own : Ports) → slice_get ports node ≡ Some own → found ≡ own
  same_own own at_own = cc

  pub read_leads_at : (wire wire' : List Piece) (piece : Piece) → edge ≡ get_or found.ins.items 0 0 → wire ≡ waiting_on wires edge → wire' ≡ wire ++ piece ∷ []
      → is_plain piece ≡ true → is_broken piece ≡ false → has_bytes piece ≡ true → left node ≡ bytes_then (text_of (piece ∷ [])) (left' node) → (is_end piece ≡ true → IsEnded (left' node))
      → ((other : ℕ) → (other == node) ≡ false → left' other ≡ left other) → ((other : ℕ) → taken' other ≡ taken other)
      → (own : Ports) (machine : Machine) → slice_get ports node ≡ Some own → slice_get machines node ≡ Some machine → own.reads ≡ true → Starves (state machine) own.ins.items wires
      → Leads state ports machines machines wires (slice_set wires edge wire') left left' taken taken'
  read_leads_at wire wire' piece edge_is wire_is more plain whole sized bytes ended elsewhere same own machine at_own at reads starves =
      let edge_here : edge ≡ get_or own.ins.items 0 0 = edge_is ∙ ap (λ (it : Ports). get_or it.ins.items 0 0) (same_own own at_own) in
      subst (λ (pieces : List Piece). Leads state ports machines machines wires (slice_set wires edge pieces) left left' taken taken') (sym (more ∙ ap (λ (pieces : List Piece). pieces ++ piece ∷ []) wire_is))
      (subst (λ (it : ℕ). Leads state ports machines machines wires (slice_set wires it (waiting_on wires it ++ piece ∷ [])) left left' taken taken') (sym edge_here)
      (read_leads state ports machines wires left left' taken taken' node own at_own machine piece at reads starves
      (subst (λ (it : ℕ). it < length wires) edge_here within) plain whole sized bytes ended elsewhere same))

  pub write_leads_at : (wire : List Piece) (piece : Piece) (rest : List Piece) → edge ≡ get_or found.outs.items 0 0 → wire ≡ waiting_on wires edge → wire ≡ piece ∷ rest
      → ((other : ℕ) → (other == node) ≡ false → taken' other ≡ taken other)
      → (is_mark piece ≡ false → taken' node ≡ then_bytes (taken node) (text_of (piece ∷ []))) → ((other : ℕ) → left' other ≡ left other)
      → (own : Ports) → slice_get ports node ≡ Some own → own.writes ≡ true
      → Leads state ports machines machines wires (slice_set wires edge rest) left left' taken taken'
  write_leads_at wire piece rest edge_is wire_is waits elsewhere grew same own at_own writes =
      let edge_here : edge ≡ get_or own.outs.items 0 0 = edge_is ∙ ap (λ (it : Ports). get_or it.outs.items 0 0) (same_own own at_own) in
      subst (λ (it : ℕ). Leads state ports machines machines wires (slice_set wires it rest) left left' taken taken') (sym edge_here)
      (write_leads state ports machines wires left left' taken taken' node own at_own piece rest writes
      (subst (λ (it : ℕ). it < length wires) edge_here within) (ap (waiting_on wires) (sym edge_here) ∙ sym wire_is ∙ waits) elsewhere grew same)

  pub write_halts_at : (wire : List Piece) (piece : Piece) (rest : List Piece) → edge ≡ get_or found.outs.items 0 0 → wire ≡ waiting_on wires edge → wire ≡ piece ∷ rest
      → ((other : ℕ) → (other == node) ≡ false → taken' other ≡ taken other)
      → GrewByPrefix (taken node) (taken' node) (text_of (piece ∷ []))
      → (own : Ports) → slice_get ports node ≡ Some own → own.writes ≡ true → Halts state ports machines wires left taken taken'
  write_halts_at wire piece rest edge_is wire_is waits elsewhere grew own at_own writes =
      let edge_here : edge ≡ get_or own.outs.items 0 0 = edge_is ∙ ap (λ (it : Ports). get_or it.outs.items 0 0) (same_own own at_own) in
      write_halts state ports machines wires left left' taken taken' node own at_own piece rest writes
      (subst (λ (it : ℕ). it < length wires) edge_here within) (ap (waiting_on wires) (sym edge_here) ∙ sym wire_is ∙ waits) elsewhere grew

  -- which edge has changed
  pub came_at : (wire wire' : List Piece) (piece : Piece) → edge ≡ get_or found.ins.items 0 0 → wire ≡ waiting_on wires edge → wire' ≡ wire ++ piece ∷ []
      → (own : Ports) → slice_get ports node ≡ Some own → CameTo (get_or own.ins.items 0 0) wires (slice_set wires edge wire')
  came_at wire wire' piece edge_is wire_is more own at_own =
      subst (λ (it : ℕ). CameTo it wires (slice_set wires edge wire')) (edge_is ∙ ap (λ (it : Ports). get_or it.ins.items 0 0) (same_own own at_own))
      (record {
        piece = piece;
        last = set_there wires edge wire' within ∙ more ∙ ap (λ (pieces : List Piece). pieces ++ piece ∷ []) wire_is;
        others = set_others wires edge wire';
      })

  pub went_at : (wire rest : List Piece) → edge ≡ get_or found.outs.items 0 0 → wire ≡ waiting_on wires edge → rest ≡ drop 1 wire
      → (own : Ports) → slice_get ports node ≡ Some own → WentFrom (get_or own.outs.items 0 0) wires (slice_set wires edge rest)
  went_at wire rest edge_is wire_is went own at_own =
      subst (λ (it : ℕ). WentFrom it wires (slice_set wires edge rest)) (edge_is ∙ ap (λ (it : Ports). get_or it.outs.items 0 0) (same_own own at_own))
      (record { here = set_there wires edge rest within ∙ went ∙ ap (drop 1) wire_is; others = set_others wires edge rest })

-- one stretch after another
module _ {Machine : Type 0} (state : Machine → State) (ports : List Ports) (start mid end : List Machine) (wires wires₁ wires₂ : List (List Piece))
    (left left₁ left₂ taken taken₁ taken₂ : ℕ → Option (List ℕ)) (same : length wires₁ ≡ length wires) where
  pub leads_on : Leads state ports start mid wires wires₁ left left₁ taken taken₁ → Leads state ports mid end wires₁ wires₂ left₁ left₂ taken₁ taken₂
      → Leads state ports start end wires wires₂ left left₂ taken taken₂
  leads_on first second plan wired follows reached =
      second plan wired (subst (λ (count : ℕ). Follows plan ports count) (sym same) follows) (first plan wired follows reached)

  pub halts_on : length mid ≡ length start → Leads state ports start mid wires wires₁ left left₁ taken taken₁ → Halts state ports mid wires₁ left₁ taken₁ taken₂
      → Halts state ports start wires left taken taken₂
  halts_on count first second plan wired follows reached =
      subst (λ (nodes : ℕ). Halted plan nodes taken₂) count
      (second plan wired (subst (λ (count : ℕ). Follows plan ports count) (sym same) follows) (first plan wired follows reached))

-- a turn of a node, whose step has led to the middle
module _ {Machine : Type 0} (state : Machine → State) (ports ports' : List Ports) (same_ports : ports' ≡ ports) (start mid : List Machine) (wires wires₁ : List (List Piece))
    (left taken : ℕ → Option (List ℕ)) (node : ℕ) (within : node < length ports) (same : length wires₁ ≡ length wires) where
  -- a node that reads has one in, and one that writes a first out
  pub turn_in : Goes state ports start wires left taken → (reading : Bool) → ((own : Ports) → slice_get ports' node ≡ Some own → reading ≡ own.reads) → reading ≡ true
      → (own : Ports) → slice_get ports' node ≡ Some own → (0 < length own.ins.items) × (get_or own.ins.items 0 0 < length wires₁)
  turn_in goes reading reads is own at =
      let at_own : slice_get ports node ≡ Some own = ap (λ (it : List Ports). slice_get it node) (sym same_ports) ∙ at in
      let one = goes.wired.one_in node (goes.follows.reads node own at_own ∙ sym (reads own at) ∙ is) in
      let ins : own.ins.items ≡ one.0 ∷ [] = sym (goes.follows.ins node own at_own) ∙ one.1 in
      let some : 0 < length (goes.plan.ins node) = subst (λ (edges : List ℕ). 0 < length edges) (sym one.1) (omega arith) in (
        subst (λ (edges : List ℕ). 0 < length edges) (sym ins) (omega arith),
        subst (λ (count : ℕ). get_or own.ins.items 0 0 < count) (sym same)
            (subst (λ (edges : List ℕ). get_or edges 0 0 < length wires) (goes.follows.ins node own at_own) (goes.follows.wired_ins node 0 some)),
      )

  pub turn_out : Goes state ports start wires left taken → (writing : Bool) → ((own : Ports) → slice_get ports' node ≡ Some own → writing ≡ own.writes) → writing ≡ true
      → (own : Ports) → slice_get ports' node ≡ Some own → (0 < length own.outs.items) × (get_or own.outs.items 0 0 < length wires₁)
  turn_out goes writing writes is own at =
      let at_own : slice_get ports node ≡ Some own = ap (λ (it : List Ports). slice_get it node) (sym same_ports) ∙ at in
      let one = goes.wired.first_out node (goes.follows.writes node own at_own ∙ sym (writes own at) ∙ is) in
      let some : 0 < length (goes.plan.outs node) = slice_get_within (goes.plan.outs node) 0 one.0 one.1 in (
        subst (λ (edges : List ℕ). 0 < length edges) (goes.follows.outs node own at_own) some,
        subst (λ (count : ℕ). get_or own.outs.items 0 0 < count) (sym same)
            (subst (λ (edges : List ℕ). get_or edges 0 0 < length wires) (goes.follows.outs node own at_own) (goes.follows.wired_outs node 0 some)),
      )

  -- what stands at the node
  own_here : (own : Ports) × (slice_get ports' node ≡ Some own)
  own_here = some_at ports' node (subst (λ (it : List Ports). node < length it) (sym same_ports) within)

  at_old : slice_get ports node ≡ Some own_here.0
  at_old = ap (λ (it : List Ports). slice_get it node) (sym same_ports) ∙ own_here.1

  pub turn_reads : (reads writes : ℕ → Bool) → HasEnds ports reads writes → (reading : Bool) → ((own : Ports) → slice_get ports' node ≡ Some own → reading ≡ own.reads) → reading ≡ true → reads node ≡ true
  turn_reads reads writes ends reading told is = ends.reading node own_here.0 at_old (sym (told own_here.0 own_here.1) ∙ is)

  pub turn_writes : (reads writes : ℕ → Bool) → HasEnds ports reads writes → (writing : Bool) → ((own : Ports) → slice_get ports' node ≡ Some own → writing ≡ own.writes) → writing ≡ true → writes node ≡ true
  turn_writes reads writes ends writing told is = ends.writing node own_here.0 at_old (sym (told own_here.0 own_here.1) ∙ is)

  module _ (counted : length mid ≡ length start) (led : Leads state ports start mid wires wires₁ left left taken taken) where
    pub turn_read_leads : (end : List Machine) (wires₂ : List (List Piece)) (left₂ taken₂ : ℕ → Option (List ℕ)) → node < length start
        → ((machine : Machine) (own : Ports) → slice_get mid node ≡ Some machine → slice_get ports' node ≡ Some own → Starves (state machine) own.ins.items wires₁)
        → (reading : Bool) → ((own : Ports) → slice_get ports' node ≡ Some own → reading ≡ own.reads) → reading ≡ true
        → ((own : Ports) (machine : Machine) → slice_get ports' node ≡ Some own → slice_get mid node ≡ Some machine → own.reads ≡ true → Starves (state machine) own.ins.items wires₁
        → Leads state ports' mid end wires₁ wires₂ left left₂ taken taken₂)
        → Leads state ports start end wires wires₂ left left₂ taken taken₂
    turn_read_leads end wires₂ left₂ taken₂ inside starves reading told is leads =
        let machine = some_at mid node (subst (λ (count : ℕ). node < count) (sym counted) inside) in
        leads_on state ports start mid end wires wires₁ wires₂ left left left₂ taken taken taken₂ same led
        (subst (λ (it : List Ports). Leads state it mid end wires₁ wires₂ left left₂ taken taken₂) same_ports
        (leads own_here.0 machine.0 own_here.1 machine.1 (sym (told own_here.0 own_here.1) ∙ is) (starves machine.0 own_here.0 machine.1 own_here.1)))

    pub turn_write_leads : (end : List Machine) (wires₂ : List (List Piece)) (left₂ taken₂ : ℕ → Option (List ℕ))
        → (writing : Bool) → ((own : Ports) → slice_get ports' node ≡ Some own → writing ≡ own.writes) → writing ≡ true
        → ((own : Ports) → slice_get ports' node ≡ Some own → own.writes ≡ true → Leads state ports' mid end wires₁ wires₂ left left₂ taken taken₂)
        → Leads state ports start end wires wires₂ left left₂ taken taken₂
    turn_write_leads end wires₂ left₂ taken₂ writing told is leads =
        leads_on state ports start mid end wires wires₁ wires₂ left left left₂ taken taken taken₂ same led
        (subst (λ (it : List Ports). Leads state it mid end wires₁ wires₂ left left₂ taken taken₂) same_ports
        (leads own_here.0 own_here.1 (sym (told own_here.0 own_here.1) ∙ is)))

    pub turn_halts : (taken₂ : ℕ → Option (List ℕ)) → Halts state ports' mid wires₁ left taken taken₂ → Halts state ports start wires left taken taken₂
    turn_halts taken₂ halts =
        halts_on state ports start mid mid wires wires₁ wires₁ left left left taken taken taken₂ same counted led
        (subst (λ (it : List Ports). Halts state it mid wires₁ left taken taken₂) same_ports halts)

    pub turn_write_halts : (taken₂ : ℕ → Option (List ℕ))
        → (writing : Bool) → ((own : Ports) → slice_get ports' node ≡ Some own → writing ≡ own.writes) → writing ≡ true
        → ((own : Ports) → slice_get ports' node ≡ Some own → own.writes ≡ true → Halts state ports' mid wires₁ left taken taken₂)
        → Halts state ports start wires left taken taken₂
    turn_write_halts taken₂ writing told is halts = turn_halts taken₂ (halts own_here.0 own_here.1 (sym (told own_here.0 own_here.1) ∙ is))

-- memory was refused at the step itself
pub step_halts : {Machine : Type 0} (state : Machine → State) (ports : List Ports) (machines : List Machine) (wires : List (List Piece)) (left taken : ℕ → Option (List ℕ))
    → Halts state ports machines wires left taken taken
step_halts state ports machines wires left taken plan wired follows reached = reached_halted state plan wired machines wires left taken taken reached (λ node. refl)
