-- Nodes that can do nothing, one after another, up to all of them.
use Rattle.std.proofs.Common.{◌≡◌, ℕ, ◌+◌, ◌<◌, ◌≤◌, List, Bool, true, false, not, ◌||◌, length, slice_get, Option, Some, Result, Ok, refl, ap, sym, ◌∙◌, subst, inl, inr, arith}
use Rattle.std.proofs.lemmas.Bool.{cases_lt, true≢false}
use Rattle.std.proofs.lemmas.Option.{slice_get_within}
use Rattle.fl_graph.specs.Machines.{State}
use Rattle.fl_graph.specs.declared.pieces.Piece.{Piece}
use Rattle.fl_net.specs.Steps.{progress_at}
use Rattle.fl_net.specs.Stuck.{is_stuck, IsStuck, IsStuckAt}
use Rattle.fl_net.specs.declared.nets.Ports.{Ports}
use Rattle.fl_net.proofs.OutsideLemmas.{some_at}

module _ {Machine : Type 0} (state : Machine → State) (ports : List Ports) (machines : List Machine) (rooms : List (Option ℕ)) (wires : List (List Piece)) where
  -- whatever is said of a network is said of one that is the same
  pub said_of : (P : List Ports → List Machine → List (Option ℕ) → List (List Piece) → Type 0)
      (ports' : List Ports) (machines' : List Machine) (rooms' : List (Option ℕ)) (wires' : List (List Piece))
      → ports' ≡ ports → machines' ≡ machines → rooms' ≡ rooms → wires' ≡ wires → P ports' machines' rooms' wires' → P ports machines rooms wires
  said_of P ports' machines' rooms' wires' same_ports same_machines same_rooms same_wires said =
      subst (λ (it : List (List Piece)). P ports machines rooms it) same_wires
      (subst (λ (it : List (Option ℕ)). P ports machines it wires') same_rooms
      (subst (λ (it : List Machine). P ports it rooms' wires') same_machines
      (subst (λ (it : List Ports). P it machines' rooms' wires') same_ports said)))

  pub one_more_stuck : (node : ℕ) → ((number : ℕ) → number < node → IsStuckAt state ports machines rooms wires number)
      → IsStuckAt state ports machines rooms wires node
      → (number : ℕ) → number < node + 1 → IsStuckAt state ports machines rooms wires number
  one_more_stuck node before here number within =
      elim (cases_lt number node) [
        | inl earlier ↦ before number earlier
        | inr later ↦
            let same : node ≡ number = omega (arith, within, later) in
            subst (IsStuckAt state ports machines rooms wires) same here
      ]

  pub all_stuck : (count : ℕ) → length machines ≤ count → ((number : ℕ) → number < count → IsStuckAt state ports machines rooms wires number)
      → IsStuck state ports machines rooms wires
  all_stuck count all each = record { each = stuck_at }
    where
      stuck_at : (node : ℕ) → IsStuckAt state ports machines rooms wires node
      stuck_at node =
          elim (cases_lt node count) [
            | inl within ↦ each node within
            | inr beyond ↦ record {
              moves_none = λ machine own at at_own. let there = slice_get_within machines node machine at in absurd (omega (arith, there, all, beyond));
              may = λ machine at. let there = slice_get_within machines node machine at in absurd (omega (arith, there, all, beyond));
            }
          ]

  -- the answer of a node's turn: whether it could do anything
  abbrev pub Answers : ℕ → Bool → Type 0
  Answers node moved = (machine : Machine) (own : Ports) → slice_get machines node ≡ Some machine → slice_get ports node ≡ Some own
      → moved ≡ not (is_stuck (progress_at (state machine).act own.ins.items own.outs.items rooms wires) own.reads)

  -- a piece moved before this node's turn or in it, so that one could move
  pub one_moved : (node : ℕ) (moved here : Bool) → (moved || here) ≡ true → node < length machines → node < length ports
      → (moved ≡ true → IsStuck state ports machines rooms wires → ⊥) → (moved ≡ false → Answers node here)
      → IsStuck state ports machines rooms wires → ⊥
  one_moved node true here is within has_ports before answer stuck = before refl stuck
  one_moved node false here is within has_ports before answer stuck =
      let machine = some_at machines node within in
      let own = some_at ports node has_ports in
      true≢false (sym is ∙ answer refl machine.0 own.0 machine.1 own.1 ∙ ap not ((stuck.each node).moves_none machine.0 own.0 machine.1 own.1))

pub told_ok : {E : Type 0} (one other : Bool) → ◌≡◌ {A = Result Bool E} (Ok one) (Ok other) → one ≡ other
told_ok one other is = cc
