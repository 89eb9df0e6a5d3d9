-- A run may halt wherever it is: each machine has kept what was due of it, and the ends took fronts of what was put.
use Rattle.std.proofs.Common.{◌≡◌, ℕ, zero, suc, ◌<◌, List, [], ◌∷◌, ◌++◌, Bool, true, false, ◌||◌, length, slice_get, Option, Some, refl, ap, sym, subst, ◌∙◌, arith}
use Rattle.std.proofs.lemmas.Bool.{or_parts, true≢false}
use Rattle.ps_world.specs.Told.{GrewByPrefix}
use Rattle.ps_world.proofs.ToldLemmas.{grew_by_front, grew_by_whole}
use Rattle.fl_graph.specs.Machines.{State, is_broken}
use Rattle.fl_graph.specs.Runs.{text_of, has_broken, has_end, are_closed}
use Rattle.fl_graph.specs.declared.pieces.Piece.{Piece}
use Rattle.fl_graph.specs.declared.pieces.Piece.TheVariants as piece
use Rattle.fl_net.specs.Laws.{at_ports, Keeps}
use Rattle.fl_net.specs.Steps.{waiting_on}
use Rattle.fl_graph.proofs.StateLemmas.{closed_ends}
use Rattle.fl_net.specs.Runs.{Plan, IsUnbroken, Reached, Halted}
use Rattle.fl_graph.proofs.PieceLemmas.{text_of-append}

-- a break in front is there
unbroken-front : (front back : List Piece) → has_broken (front ++ back) ≡ false → has_broken front ≡ false
unbroken-front [] back none = refl
unbroken-front (first ∷ front) back none =
    let parts = or_parts (is_broken first) (has_broken (front ++ back)) none in
    ap (λ (test : Bool). test || has_broken front) parts.0 ∙ unbroken-front front back parts.1

-- an end in front is there
pub has_end-front : (front back : List Piece) → has_end front ≡ true → has_end (front ++ back) ≡ true
has_end-front [] back ended = absurd (true≢false (sym ended))
has_end-front (piece.Bytes bytes ∷ front) back ended = has_end-front front back ended
has_end-front (piece.Mark ∷ front) back ended = has_end-front front back ended
has_end-front (piece.End ∷ front) back ended = refl
has_end-front (piece.Broken ∷ front) back ended = has_end-front front back ended

-- a number below the number of machines is that of one
pub machine_at : {Machine : Type 0} (machines : List Machine) (node : ℕ) → node < length machines → (machine : Machine) × (slice_get machines node ≡ Some machine)
machine_at [] node within = absurd (omega (arith, within))
machine_at (machine ∷ machines) zero within = (machine, refl)
machine_at (machine ∷ machines) (suc node) within = machine_at machines node (omega (arith, within))

module _ {Machine : Type 0} (state : Machine → State) (plan : Plan) (machines : List Machine) (wires : List (List Piece)) (left taken : ℕ → Option (List ℕ)) (reached : Reached state plan machines wires left taken) where
  -- each machine has kept what was due of it
  pub reached_keeps : (node : ℕ) (machine : Machine) → slice_get machines node ≡ Some machine
      → Keeps (plan.starts node).due (at_ports (plan.ins node) reached.took) (at_ports (plan.outs node) reached.put)
  reached_keeps node machine at_machine =
      let run = reached.runs node machine at_machine in
      record { front = run.texts.front; whole = run.texts.ended }

  pub each_keeps : (nodes : ℕ) → length machines ≡ nodes → (node : ℕ) → node < nodes
      → Keeps (plan.starts node).due (at_ports (plan.ins node) reached.took) (at_ports (plan.outs node) reached.put)
  each_keeps nodes counted node within = let found = machine_at machines node (omega (arith, within, counted)) in reached_keeps node found.0 found.1

  -- and what an end took is a front of what was put
  pub written_front : (node edge : ℕ) → plan.writes node ≡ true → slice_get (plan.outs node) 0 ≡ Some edge → GrewByPrefix (plan.taken node) (taken node) (text_of (reached.put edge))
  written_front node edge writes is =
      let more : text_of (reached.put edge) ≡ text_of (reached.took edge) ++ text_of (waiting_on wires edge) =
      ap text_of (reached.queued edge) ∙ text_of-append (reached.took edge) (waiting_on wires edge) in
      subst (λ (text : List ℕ). GrewByPrefix (plan.taken node) (taken node) text) (sym more)
      (grew_by_front (plan.taken node) (taken node) (text_of (reached.took edge)) (text_of (waiting_on wires edge))
      (grew_by_whole (plan.taken node) (taken node) (text_of (reached.took edge)) (reached.written node edge writes is)))

  -- so a run may halt wherever it is
  abbrev pub reached_halts : (nodes : ℕ) → length machines ≡ nodes → Halted plan nodes taken
  reached_halts nodes counted = record {
    took = reached.took;
    put = reached.put;
    waiting = waiting_on wires;
    queued = reached.queued;
    clean = reached.clean;
    keeps = each_keeps nodes counted;
    left = left;
    read = reached.read;
    ended = reached.ended;
    written = written_front;
  }

  -- where no machine is broken, what was taken from an edge and is closed has its end
  pub taken_ends : IsUnbroken state machines reached.put → (edge : ℕ) → are_closed (reached.took edge) ≡ true → has_end (reached.took edge) ≡ true
  taken_ends unbroken edge closed =
      closed_ends (reached.took edge) closed
      (unbroken-front (reached.took edge) (waiting_on wires edge) (ap has_broken (sym (reached.queued edge)) ∙ unbroken.edges edge))
