-- What a piece that goes to the outside makes of a network's run, and what a halt leaves.
use Rattle.std.proofs.Common.{◌≡◌, ℕ, zero, suc, ◌==◌, ◌<◌, List, [], ◌∷◌, ◌++◌, Bool, true, false, if◌then◌else◌, length, slice_get, Option, Some, refl, ap, sym, subst, ◌∙◌, append_assoc, arith, eq-eqb}
use Rattle.std.proofs.lemmas.Bool.{true≢false, eqb-true}
use Rattle.ps_world.specs.Told.{then_bytes, GrewByPrefix}
use Rattle.ps_world.proofs.ToldLemmas.{then_bytes-append, grew_by_whole, grew_by_front, grew_by_more}
use Rattle.fl_graph.specs.Net.{has}
use Rattle.fl_graph.specs.Machines.{State}
use Rattle.fl_graph.specs.Runs.{text_of, add, Run}
use Rattle.fl_graph.specs.declared.pieces.Piece.{Piece}
use Rattle.fl_net.specs.Laws.{at_ports, Keeps}
use Rattle.fl_net.specs.Steps.{waiting_on, SameBut}
use Rattle.fl_net.specs.Runs.{Plan, IsWired, Reached, Halted}
use Rattle.fl_graph.proofs.PieceLemmas.{text_of-append}
use Rattle.fl_net.proofs.PortLemmas.{at_ports-elsewhere, stands-has}

-- below the length something stands
pub some_at : {X : Type 0} (items : List X) (place : ℕ) → place < length items → (item : X) × (slice_get items place ≡ Some item)
some_at [] place within = absurd (omega (arith, within))
some_at (first ∷ items) zero within = (first, refl)
some_at (first ∷ items) (suc place) within = some_at items place (omega (arith, within))

module _ {Machine : Type 0} (state : Machine → State) (plan : Plan) (wired : IsWired plan) where
  -- the first outs of two nodes differ
  out_differs : (node other edge out : ℕ) → slice_get (plan.outs node) 0 ≡ Some edge → slice_get (plan.outs other) 0 ≡ Some out → (other == node) ≡ false → (out == edge) ≡ false
  out_differs node other edge out is at apart = by_test (out == edge) refl
    where
      by_test : (test : Bool) → (out == edge) ≡ test → test ≡ false
      by_test true same =
          let here : has edge (plan.outs other) ≡ true = ap (λ (it : ℕ). has it (plan.outs other)) (sym (eqb-true out edge same)) ∙ stands-has (plan.outs other) 0 out at in
          let node_is : node ≡ other = wired.one_giver node other edge (stands-has (plan.outs node) 0 edge is) here in
          absurd (true≢false (sym (eq-eqb other other refl) ∙ ap (λ (it : ℕ). other == it) (sym node_is) ∙ apart))
      by_test false same = refl

  -- a piece went to the outside
  pub record Went (wires wires' : List (List Piece)) (node edge : ℕ) (piece : Piece) : Type 0 where
    pub first : waiting_on wires edge ≡ piece ∷ waiting_on wires' edge
    pub others : SameBut edge wires wires'

  pub reached_went : (machines : List Machine) (wires wires' : List (List Piece)) (left taken taken' : ℕ → Option (List ℕ)) (node edge : ℕ) (first : Piece)
      → plan.writes node ≡ true → slice_get (plan.outs node) 0 ≡ Some edge → Went wires wires' node edge first
      → taken' node ≡ then_bytes (taken node) (text_of (first ∷ [])) → ((other : ℕ) → (other == node) ≡ false → taken' other ≡ taken other)
      → Reached state plan machines wires left taken → Reached state plan machines wires' left taken'
  reached_went machines wires wires' left taken taken' node edge first writes is went grew elsewhere reached = record {
    took = add edge first reached.took;
    put = reached.put;
    queued = λ other. queue other (other == edge) refl;
    clean = reached.clean;
    plain = reached.plain;
    sized = reached.sized;
    runs = λ other now at.
        subst (λ (pieces : ℕ → List Piece). Run (plan.starts other) (state now) pieces (at_ports (plan.outs other) reached.put) (plan.failed other))
        (sym (at_ports-elsewhere (plan.ins other) edge first reached.took (wired.to_outside node other edge writes is)))
        (reached.runs other now at);
    sound = reached.sound;
    read = reached.read;
    ended = reached.ended;
    written = λ other out other_writes at. told other out other_writes at (other == node) refl;
  }
    where
      queue : (other : ℕ) (here : Bool) → (other == edge) ≡ here
          → reached.put other ≡ (if here then reached.took other ++ first ∷ [] else reached.took other) ++ waiting_on wires' other
      queue other true same =
          reached.queued other
          ∙ ap (λ (pieces : List Piece). reached.took other ++ pieces) (ap (waiting_on wires) (eqb-true other edge same) ∙ went.first ∙ ap (λ (it : ℕ). first ∷ waiting_on wires' it) (sym (eqb-true other edge same)))
          ∙ sym (append_assoc (reached.took other) (first ∷ []) (waiting_on wires' other))
      queue other false same = reached.queued other ∙ ap (λ (pieces : List Piece). reached.took other ++ pieces) (sym (went.others other same))

      told : (other out : ℕ) → plan.writes other ≡ true → slice_get (plan.outs other) 0 ≡ Some out → (here : Bool) → (other == node) ≡ here
          → taken' other ≡ then_bytes (plan.taken other) (text_of (add edge first reached.took out))
      told other out other_writes at true same =
          let at_node : other ≡ node = eqb-true other node same in
          let out_is : out ≡ edge = first_is (sym at ∙ ap (λ (it : ℕ). slice_get (plan.outs it) 0) at_node ∙ is) in
          ap taken' at_node ∙ grew ∙ ap (λ (it : ℕ). then_bytes (taken it) (text_of (first ∷ []))) (sym at_node)
          ∙ ap (λ (told : Option (List ℕ)). then_bytes told (text_of (first ∷ []))) (reached.written other out other_writes at)
          ∙ then_bytes-append (plan.taken other) (text_of (reached.took out)) (text_of (first ∷ []))
          ∙ ap (then_bytes (plan.taken other)) (sym (text_of-append (reached.took out) (first ∷ [])))
          ∙ ap (λ (here : Bool). then_bytes (plan.taken other) (text_of (if here then reached.took out ++ first ∷ [] else reached.took out))) (sym (eq-eqb out edge out_is))
        where
          first_is : Some out ≡ Some edge → out ≡ edge
          first_is same = cc
      told other out other_writes at false apart =
          elsewhere other apart ∙ reached.written other out other_writes at
          ∙ ap (λ (here : Bool). then_bytes (plan.taken other) (text_of (if here then reached.took out ++ first ∷ [] else reached.took out))) (sym (out_differs node other edge out is at apart))

  module _ (machines : List Machine) (wires : List (List Piece)) (left taken taken' : ℕ → Option (List ℕ)) (reached : Reached state plan machines wires left taken) where
    pub reached_keeps : (node : ℕ) → node < length machines → Keeps (plan.starts node).due (at_ports (plan.ins node) reached.took) (at_ports (plan.outs node) reached.put)
    reached_keeps node within =
        let found = some_at machines node within in
        let run = reached.runs node found.0 found.1 in
        record { front = run.texts.front; whole = run.texts.ended }

    -- where a node stands as before, its end took a front of what was put
    grew_still : (node edge : ℕ) → plan.writes node ≡ true → slice_get (plan.outs node) 0 ≡ Some edge → taken' node ≡ taken node → GrewByPrefix (plan.taken node) (taken' node) (text_of (reached.put edge))
    grew_still node edge writes is still =
        subst (λ (text : List ℕ). GrewByPrefix (plan.taken node) (taken' node) text)
        (sym (text_of-append (reached.took edge) (waiting_on wires edge)) ∙ ap text_of (sym (reached.queued edge)))
        (grew_by_front (plan.taken node) (taken' node) (text_of (reached.took edge)) (text_of (waiting_on wires edge))
        (grew_by_whole (plan.taken node) (taken' node) (text_of (reached.took edge)) (still ∙ reached.written node edge writes is)))

    -- a halt where nothing was written
    pub reached_halted : ((node : ℕ) → taken' node ≡ taken node) → Halted plan (length machines) taken'
    reached_halted same = record {
      took = reached.took;
      put = reached.put;
      waiting = waiting_on wires;
      queued = reached.queued;
      clean = reached.clean;
      keeps = reached_keeps;
      left = left;
      read = reached.read;
      ended = reached.ended;
      written = λ node edge writes is. grew_still node edge writes is (same node);
    }

    -- a halt where a front of the first piece that waits was written
    pub part_halted : (node edge : ℕ) (first : Piece) (rest : List Piece) → plan.writes node ≡ true → slice_get (plan.outs node) 0 ≡ Some edge → waiting_on wires edge ≡ first ∷ rest
        → GrewByPrefix (taken node) (taken' node) (text_of (first ∷ [])) → ((other : ℕ) → (other == node) ≡ false → taken' other ≡ taken other)
        → Halted plan (length machines) taken'
    part_halted node edge first rest writes is waits grew elsewhere = record {
      took = reached.took;
      put = reached.put;
      waiting = waiting_on wires;
      queued = reached.queued;
      clean = reached.clean;
      keeps = reached_keeps;
      left = left;
      read = reached.read;
      ended = reached.ended;
      written = λ other out other_writes at. told other out other_writes at (other == node) refl;
    }
      where
        told : (other out : ℕ) → plan.writes other ≡ true → slice_get (plan.outs other) 0 ≡ Some out → (here : Bool) → (other == node) ≡ here
            → GrewByPrefix (plan.taken other) (taken' other) (text_of (reached.put out))
        told other out other_writes at true same =
            let at_node : other ≡ node = eqb-true other node same in
            let out_is : out ≡ edge = first_is (sym at ∙ ap (λ (it : ℕ). slice_get (plan.outs it) 0) at_node ∙ is) in
            let whole : text_of (reached.took edge) ++ (text_of (first ∷ []) ++ text_of rest) ≡ text_of (reached.put edge) =
            ap (λ (text : List ℕ). text_of (reached.took edge) ++ text) (sym (text_of-append (first ∷ []) rest) ∙ ap text_of (sym waits))
            ∙ sym (text_of-append (reached.took edge) (waiting_on wires edge)) ∙ ap text_of (sym (reached.queued edge)) in
            subst (λ (it : ℕ). GrewByPrefix (plan.taken it) (taken' it) (text_of (reached.put out))) (sym at_node)
            (subst (λ (it : ℕ). GrewByPrefix (plan.taken node) (taken' node) (text_of (reached.put it))) (sym out_is)
            (subst (λ (text : List ℕ). GrewByPrefix (plan.taken node) (taken' node) text) whole
            (grew_by_more (plan.taken node) (taken node) (taken' node) (text_of (reached.took edge)) (text_of (first ∷ []) ++ text_of rest)
            (reached.written node edge writes is)
            (grew_by_front (taken node) (taken' node) (text_of (first ∷ [])) (text_of rest) grew))))
          where
            first_is : Some out ≡ Some edge → out ≡ edge
            first_is same = cc
        told other out other_writes at false apart = grew_still other out other_writes at (elsewhere other apart)
