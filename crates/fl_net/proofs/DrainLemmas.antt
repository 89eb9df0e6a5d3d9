-- Nothing waits for the outside behind a turn, where nothing did before it.
use Rattle.std.proofs.Common.{◌≡◌, ℕ, ◌<◌, ◌==◌, List, [], ◌∷◌, ◌++◌, Bool, true, false, slice_get, get_or, length, drop, Option, Some, refl, ap, sym, subst, ◌∙◌, eq-eqb}
use Rattle.std.proofs.lemmas.Bool.{true≢false, eqb-true}
use Rattle.std.proofs.lemmas.Option.{get_or_from_slice_get}
use Rattle.fl_graph.specs.Net.{has}
use Rattle.fl_graph.specs.Machines.{State}
use Rattle.fl_graph.specs.declared.pieces.Piece.{Piece}
use Rattle.fl_net.specs.Runs.{AreDrained, Goes}
use Rattle.fl_net.specs.Steps.{waiting_on, has_moved, CameTo, SameBut, GaveTo, TookFrom, WentFrom}
use Rattle.fl_net.specs.declared.nets.Ports.{Ports}
use Rattle.fl_net.specs.declared.steps.Progress.{Progress}
use Rattle.fl_net.specs.declared.steps.Progress.TheVariants as progress
use Rattle.fl_net.proofs.OutsideLemmas.{some_at}
use Rattle.fl_net.proofs.PortLemmas.{stands-has}

module _ {Machine : Type 0} (state : Machine → State) (ports : List Ports) (machines : List Machine) (wires : List (List Piece)) (left taken : ℕ → Option (List ℕ))
    (goes : Goes state ports machines wires left taken) where
  -- the first out of a node that writes
  outer_out : (writer : ℕ) (own : Ports) → slice_get ports writer ≡ Some own → own.writes ≡ true → slice_get own.outs.items 0 ≡ Some (get_or own.outs.items 0 0)
  outer_out writer own at writes =
      let one = goes.wired.first_out writer (goes.follows.writes writer own at ∙ writes) in
      let first : slice_get own.outs.items 0 ≡ Some one.0 = ap (λ (edges : List ℕ). slice_get edges 0) (sym (goes.follows.outs writer own at)) ∙ one.1 in
      first ∙ ap (λ (edge : ℕ). Some edge) (sym (get_or_from_slice_get own.outs.items 0 one.0 0 first))

  outer_there : (writer : ℕ) (own : Ports) → slice_get ports writer ≡ Some own → own.writes ≡ true → has (get_or own.outs.items 0 0) (goes.plan.outs writer) ≡ true
  outer_there writer own at writes =
      ap (has (get_or own.outs.items 0 0)) (goes.follows.outs writer own at)
      ∙ stands-has own.outs.items 0 (get_or own.outs.items 0 0) (outer_out writer own at writes)

  -- a change of an edge that is no node's to the outside
  elsewhere : (edge : ℕ) (wires' : List (List Piece)) → SameBut edge wires wires'
      → ((writer : ℕ) (own : Ports) → slice_get ports writer ≡ Some own → own.writes ≡ true → get_or own.outs.items 0 0 ≡ edge → ⊥)
      → AreDrained ports wires → AreDrained ports wires'
  elsewhere edge wires' others apart drained writer own at writes = by_test (get_or own.outs.items 0 0 == edge) refl
    where
      by_test : (test : Bool) → (get_or own.outs.items 0 0 == edge) ≡ test → waiting_on wires' (get_or own.outs.items 0 0) ≡ []
      by_test true is = absurd (apart writer own at writes (eqb-true (get_or own.outs.items 0 0) edge is))
      by_test false is = others (get_or own.outs.items 0 0) is ∙ drained writer own at writes

  module _ (node : ℕ) (own : Ports) (at_own : slice_get ports node ≡ Some own) where
    -- an edge that a node takes isn't one to the outside
    pub in_drained : (edge : ℕ) (wires' : List (List Piece)) → has edge own.ins.items ≡ true → SameBut edge wires wires' → AreDrained ports wires → AreDrained ports wires'
    in_drained edge wires' there others =
        elsewhere edge wires' others (λ writer other at writes same.
        true≢false
        (sym (ap (has (get_or other.outs.items 0 0)) (goes.follows.ins node own at_own) ∙ ap (λ (it : ℕ). has it own.ins.items) same ∙ there)
        ∙ goes.wired.to_outside writer node (get_or other.outs.items 0 0) (goes.follows.writes writer other at ∙ writes)
        (ap (λ (edges : List ℕ). slice_get edges 0) (goes.follows.outs writer other at) ∙ outer_out writer other at writes)))

    pub took_drained : (wires' : List (List Piece)) → TookFrom own.ins.items wires wires' → AreDrained ports wires → AreDrained ports wires'
    took_drained wires' took = in_drained took.edge wires' took.there took.others

    -- nor is one that another node gives
    same_giver : (edge writer : ℕ) (other : Ports) → has edge own.outs.items ≡ true → slice_get ports writer ≡ Some other → other.writes ≡ true → get_or other.outs.items 0 0 ≡ edge
        → other ≡ own
    same_giver edge writer other there at writes same =
        let alone = goes.wired.one_giver writer node edge
        (ap (λ (it : ℕ). has it (goes.plan.outs writer)) (sym same) ∙ outer_there writer other at writes)
        (ap (has edge) (goes.follows.outs node own at_own) ∙ there) in
        let found : Some other ≡ Some own = sym at ∙ ap (slice_get ports) alone ∙ at_own in
        cc

    pub gave_drained : (wires' : List (List Piece)) → own.writes ≡ false → GaveTo own.outs.items wires wires' → AreDrained ports wires → AreDrained ports wires'
    gave_drained wires' silent gave =
        elsewhere gave.edge wires' gave.came.others (λ writer other at writes same.
        let one = same_giver gave.edge writer other gave.there at writes same in
        true≢false (sym writes ∙ ap (λ (it : Ports). it.writes) one ∙ silent))

    -- a piece that came to the edge to the outside of a node that writes has gone
    pub went_drained : (wires₁ wires₂ : List (List Piece)) → own.writes ≡ true → GaveTo own.outs.items wires wires₁ → WentFrom (get_or own.outs.items 0 0) wires₁ wires₂
        → AreDrained ports wires → AreDrained ports wires₂
    went_drained wires₁ wires₂ writing gave went drained writer other at writes = by_test (get_or other.outs.items 0 0 == outer) refl
      where
        outer : ℕ
        outer = get_or own.outs.items 0 0

        -- it waited there alone, or none did
        has_gone : (here : Bool) → (outer == gave.edge) ≡ here → drop 1 (waiting_on wires₁ outer) ≡ []
        has_gone true here =
            let its : outer ≡ gave.edge = eqb-true outer gave.edge here in
            ap (λ (edge : ℕ). drop 1 (waiting_on wires₁ edge)) its ∙ ap (drop 1) gave.came.last
            ∙ ap (λ (pieces : List Piece). drop 1 (pieces ++ gave.came.piece ∷ [])) (ap (waiting_on wires) (sym its) ∙ drained node own at_own writing)
        has_gone false here = ap (drop 1) (gave.came.others outer here ∙ drained node own at_own writing)

        -- that of another node isn't this one's
        apart : (here : Bool) → (get_or other.outs.items 0 0 == gave.edge) ≡ here → (get_or other.outs.items 0 0 == outer) ≡ false → here ≡ false
        apart true here is =
            let one = same_giver gave.edge writer other gave.there at writes (eqb-true (get_or other.outs.items 0 0) gave.edge here) in
            absurd (true≢false (sym (eq-eqb (get_or other.outs.items 0 0) outer (ap (λ (it : Ports). get_or it.outs.items 0 0) one)) ∙ is))
        apart false here is = refl

        by_test : (test : Bool) → (get_or other.outs.items 0 0 == outer) ≡ test → waiting_on wires₂ (get_or other.outs.items 0 0) ≡ []
        by_test true is = ap (waiting_on wires₂) (eqb-true (get_or other.outs.items 0 0) outer is) ∙ went.here ∙ has_gone (outer == gave.edge) refl
        by_test false is =
            went.others (get_or other.outs.items 0 0) is
            ∙ gave.came.others (get_or other.outs.items 0 0) (apart (get_or other.outs.items 0 0 == gave.edge) refl is)
            ∙ drained writer other at writes

-- a turn of a node, whose step led to the middle
module _ {Machine : Type 0} (state : Machine → State) (ports ports₁ ports₂ : List Ports) (same₁ : ports₁ ≡ ports) (same₂ : ports₂ ≡ ports₁) (machines : List Machine)
    (wires wires₁ wires₂ : List (List Piece)) (left taken : ℕ → Option (List ℕ)) (goes : Goes state ports machines wires left taken) (node : ℕ) (within : node < length ports) where
  record Here : Type 0 where
    own : Ports
    at : slice_get ports node ≡ Some own
    at_middle : slice_get ports₁ node ≡ Some own

  here : Here
  here = let found = some_at ports node within in record { own = found.0; at = found.1; at_middle = ap (λ (it : List Ports). slice_get it node) same₁ ∙ found.1 }

  -- a piece came from outside
  pub read_drained : wires₁ ≡ wires → (reading : Bool) → ((own : Ports) → slice_get ports₁ node ≡ Some own → reading ≡ own.reads) → reading ≡ true
      → ((own : Ports) → slice_get ports₁ node ≡ Some own → CameTo (get_or own.ins.items 0 0) wires₁ wires₂)
      → AreDrained ports wires → AreDrained ports₂ wires₂
  read_drained same reading told is came drained =
      let one = goes.wired.one_in node (goes.follows.reads node here.own here.at ∙ sym (told here.own here.at_middle) ∙ is) in
      let ins : here.own.ins.items ≡ one.0 ∷ [] = sym (goes.follows.ins node here.own here.at) ∙ one.1 in
      let first : slice_get here.own.ins.items 0 ≡ Some (get_or here.own.ins.items 0 0) =
      ap (λ (edges : List ℕ). slice_get edges 0) ins ∙ ap (λ (edges : List ℕ). Some (get_or edges 0 0)) (sym ins) in
      subst (λ (it : List Ports). AreDrained it wires₂) (sym (same₂ ∙ same₁))
      (in_drained state ports machines wires left taken goes node here.own here.at (get_or here.own.ins.items 0 0) wires₂ (stands-has here.own.ins.items 0 (get_or here.own.ins.items 0 0) first)
      (subst (λ (it : List (List Piece)). SameBut (get_or here.own.ins.items 0 0) it wires₂) same (came here.own here.at_middle).others) drained)

  -- one went there
  pub write_drained : ((own : Ports) → slice_get ports node ≡ Some own → GaveTo own.outs.items wires wires₁)
      → (writing : Bool) → ((own : Ports) → slice_get ports₁ node ≡ Some own → writing ≡ own.writes) → writing ≡ true
      → ((own : Ports) → slice_get ports₁ node ≡ Some own → WentFrom (get_or own.outs.items 0 0) wires₁ wires₂)
      → AreDrained ports wires → AreDrained ports₂ wires₂
  write_drained gave writing told is went drained =
      subst (λ (it : List Ports). AreDrained it wires₂) (sym (same₂ ∙ same₁))
      (went_drained state ports machines wires left taken goes node here.own here.at wires₁ wires₂ (sym (told here.own here.at_middle) ∙ is) (gave here.own here.at) (went here.own here.at_middle) drained)

  unmoved : wires₁ ≡ wires → AreDrained ports wires → AreDrained ports₁ wires₁
  unmoved same drained = subst (λ (it : List Ports). AreDrained it wires₁) (sym same₁) (subst (λ (it : List (List Piece)). AreDrained ports it) (sym same) drained)

  -- or none did either
  pub step_drained : (came : Progress)
      → (came ≡ progress.Took → (own : Ports) → slice_get ports node ≡ Some own → TookFrom own.ins.items wires wires₁)
      → (came ≡ progress.Gave → (own : Ports) → slice_get ports node ≡ Some own → GaveTo own.outs.items wires wires₁)
      → (came ≡ progress.Gave → (own : Ports) → slice_get ports₁ node ≡ Some own → own.writes ≡ false)
      → (has_moved came ≡ false → wires₁ ≡ wires)
      → AreDrained ports wires → AreDrained ports₁ wires₁
  step_drained progress.Took took gave silent same drained =
      subst (λ (it : List Ports). AreDrained it wires₁) (sym same₁) (took_drained state ports machines wires left taken goes node here.own here.at wires₁ (took refl here.own here.at) drained)
  step_drained progress.Gave took gave silent same drained =
      subst (λ (it : List Ports). AreDrained it wires₁) (sym same₁)
      (gave_drained state ports machines wires left taken goes node here.own here.at wires₁ (silent refl here.own here.at_middle) (gave refl here.own here.at) drained)
  step_drained progress.Starves took gave silent same drained = unmoved (same refl) drained
  step_drained progress.Waits took gave silent same drained = unmoved (same refl) drained
  step_drained progress.Ended took gave silent same drained = unmoved (same refl) drained
