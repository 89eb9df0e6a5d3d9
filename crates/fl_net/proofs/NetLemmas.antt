-- A network's step goes on with its run.
use Rattle.std.proofs.Common.{◌≡◌, ℕ, zero, suc, ◌==◌, List, [], ◌∷◌, ◌++◌, Bool, true, false, not, ◌&&◌, if◌then◌else◌, length, slice_get, slice_set, Option, Some, Result, Ok, Err, IfOk, OnErr, refl, ap, sym, subst, ◌∙◌, arith, take, drop, append-nil}
use Rattle.std.specs.List.{list_all}
use Rattle.std.proofs.lemmas.Bool.{true≢false, and_parts}
use Rattle.std.proofs.lemmas.List.Folds.{list_all-append}
use Rattle.std.proofs.lemmas.Option.{slice_get_within}
use Rattle.std.proofs.Math.Dec.{eqb-suc-suc}
use Rattle.ps_lines.specs.declared.memory.Memory.{Memory}
use Rattle.fl_graph.specs.Net.{has}
use Rattle.fl_graph.specs.Machines.{State, is_take}
use Rattle.fl_graph.specs.declared.pieces.Piece.{Piece}
use Rattle.fl_net.specs.Steps.{is_plain, waiting_on, has_moved, ArePlain, Broke, Fits, Took, TookFrom, Gave, GaveTo, Starves}
use Rattle.fl_net.specs.Moves.{moves_of}
use Rattle.fl_net.specs.Runs.{Plan, IsWired, Follows, Reached, Leads, Goes}
use Rattle.fl_net.specs.declared.nets.Ports.{Ports}
use Rattle.fl_net.specs.declared.steps.Progress.{Progress}
use Rattle.fl_net.specs.declared.steps.Progress.TheVariants as progress
use Rattle.fl_net.proofs.PortLemmas.{stands-has}
use Rattle.fl_net.proofs.ReachLemmas.{Replaced, broke_moves, gave_moves, reached_broke, reached_gave, reached_took, took_moves}

module _ {X : Type 0} where
  set_here : (items : List X) (place : ℕ) (item now : X) → slice_get (slice_set items place item) place ≡ Some now → now ≡ item
  set_here [] place item now is = absurd (cc)
  set_here (first ∷ items) zero item now is = cc
  set_here (first ∷ items) (suc place) item now is = set_here items place item now is

  set_elsewhere : (items : List X) (place other : ℕ) (item : X) → (other == place) ≡ false → slice_get (slice_set items place item) other ≡ slice_get items other
  set_elsewhere [] place other item apart = refl
  set_elsewhere (first ∷ items) zero zero item apart = absurd (true≢false apart)
  set_elsewhere (first ∷ items) zero (suc other) item apart = refl
  set_elsewhere (first ∷ items) (suc place) zero item apart = refl
  set_elsewhere (first ∷ items) (suc place) (suc other) item apart = set_elsewhere items place other item (sym (eqb-suc-suc other place) ∙ apart)

  set_same : (items : List X) (place : ℕ) (item : X) → slice_get items place ≡ Some item → slice_set items place item ≡ items
  set_same [] place item is = refl
  set_same (first ∷ items) zero item is = ap (λ (it : X). it ∷ items) (cc)
  set_same (first ∷ items) (suc place) item is = ap (λ (rest : List X). first ∷ rest) (set_same items place item is)

  pub replaced_by : (items items' : List X) (place : ℕ) (was now : X) → slice_get items place ≡ Some was → items' ≡ slice_set items place now → Replaced items items' place was now
  replaced_by items items' place was now is set = record {
    was = is;
    here = λ found there. set_here items place now found (ap (λ (it : List X). slice_get it place) (sym set) ∙ there);
    others = λ other apart. ap (λ (it : List X). slice_get it other) set ∙ set_elsewhere items place other now apart;
  }

module _ {Machine : Type 0} (state : Machine → State) (ports : List Ports) where
  -- a run goes on from one point to the other, by one move more where a piece has moved
  pub record GoesOn (moved : Bool) (plan : Plan) (machines machines' : List Machine) (wires wires' : List (List Piece)) (left taken : ℕ → Option (List ℕ))
      (reached : Reached state plan machines wires left taken) : Type 0 where
    pub after : Reached state plan machines' wires' left taken
    pub moves : moves_of plan (length machines) after.took after.put
        ≡ (if moved then suc (moves_of plan (length machines) reached.took reached.put) else moves_of plan (length machines) reached.took reached.put)

  -- so it does from whatever was taken and put
  abbrev pub LeadsBy : Progress → List Machine → List Machine → List (List Piece) → List (List Piece) → Type 0
  LeadsBy step machines machines' wires wires' =
      (left taken : ℕ → Option (List ℕ)) (plan : Plan) → IsWired plan → Follows plan ports (length wires) → (reached : Reached state plan machines wires left taken)
      → GoesOn (has_moved step) plan machines machines' wires wires' left taken reached

  -- and so it has come there
  pub leads_of : (machines machines' : List Machine) (wires wires' : List (List Piece)) (result : Result Progress Memory)
      → IfOk result (λ step. LeadsBy step machines machines' wires wires')
      → IfOk result (λ _. (left taken : ℕ → Option (List ℕ)) → Leads state ports machines machines' wires wires' left left taken taken)
  leads_of machines machines' wires wires' (Ok step) on = λ left taken plan wired follows reached. (on left taken plan wired follows reached).after
  leads_of machines machines' wires wires' (Err memory) on = tt

  -- a step that changes nothing
  stays : (step : Progress) (machines machines' : List Machine) (wires wires' : List (List Piece)) → has_moved step ≡ false → machines' ≡ machines → wires' ≡ wires
      → LeadsBy step machines machines' wires wires'
  stays step machines machines' wires wires' rests same_machines same_wires left taken plan wired follows reached =
      subst (λ (it : List Machine). GoesOn (has_moved step) plan machines it wires wires' left taken reached) (sym same_machines)
      (subst (λ (it : List (List Piece)). GoesOn (has_moved step) plan machines machines wires it left taken reached) (sym same_wires)
      (record {
        after = reached;
        moves = ap (λ (moved : Bool). if moved then suc (moves_of plan (length machines) reached.took reached.put) else moves_of plan (length machines) reached.took reached.put) (sym rests);
      }))

  step_leads : (machines machines' : List Machine) (wires wires' : List (List Piece)) (node : ℕ) (machine machine' : Machine) (own : Ports) (result : Result Progress Memory)
      → slice_get machines node ≡ Some machine → slice_get ports node ≡ Some own → machines' ≡ slice_set machines node machine'
      → (result ≡ Ok progress.Took → Took (state machine) (state machine') own.ins.items false wires wires')
      → (result ≡ Ok progress.Gave → Gave (state machine) (state machine') own.outs.items wires wires')
      → IfOk result (λ step. has_moved step ≡ false → (machine' ≡ machine) × (wires' ≡ wires))
      → IfOk result (λ step. LeadsBy step machines machines' wires wires')
  step_leads machines machines' wires wires' node machine machine' own (Ok progress.Took) at at_own set took gave same = λ left taken plan wired follows reached.
      let unmarked : false ≡ true → plan.failed node ≡ true = λ refused. absurd (true≢false (sym refused)) in
      let replaced = replaced_by machines machines' node machine machine' at set in
      let here = subst (λ (ins : List ℕ). Took (state machine) (state machine') ins false wires wires') (sym (follows.ins node own at_own)) (took refl) in
      record {
        after = reached_took state plan wired machines machines' wires wires' left taken node machine machine' false unmarked replaced here reached;
        moves = took_moves state plan wired machines machines' wires wires' left taken node machine machine' false unmarked replaced here reached (length machines) (slice_get_within machines node machine at);
      }
  step_leads machines machines' wires wires' node machine machine' own (Ok progress.Gave) at at_own set took gave same = λ left taken plan wired follows reached.
      let replaced = replaced_by machines machines' node machine machine' at set in
      let here = subst (λ (outs : List ℕ). Gave (state machine) (state machine') outs wires wires') (sym (follows.outs node own at_own)) (gave refl) in
      record {
        after = reached_gave state plan wired machines machines' wires wires' left taken node machine machine' replaced here reached;
        moves = gave_moves state plan wired machines machines' wires wires' left taken node machine machine' replaced here reached (length machines) (slice_get_within machines node machine at);
      }
  step_leads machines machines' wires wires' node machine machine' own (Ok progress.Starves) at at_own set took gave same =
      let as_before = same refl in
      stays progress.Starves machines machines' wires wires' refl (set ∙ ap (slice_set machines node) as_before.0 ∙ set_same machines node machine at) as_before.1
  step_leads machines machines' wires wires' node machine machine' own (Ok progress.Waits) at at_own set took gave same =
      let as_before = same refl in
      stays progress.Waits machines machines' wires wires' refl (set ∙ ap (slice_set machines node) as_before.0 ∙ set_same machines node machine at) as_before.1
  step_leads machines machines' wires wires' node machine machine' own (Ok progress.Ended) at at_own set took gave same =
      let as_before = same refl in
      stays progress.Ended machines machines' wires wires' refl (set ∙ ap (slice_set machines node) as_before.0 ∙ set_same machines node machine at) as_before.1
  step_leads machines machines' wires wires' node machine machine' own (Err memory) at at_own set took gave same = tt

  -- a node that was refused memory may have failed: so its run goes on, by one move more where it took a piece
  abbrev pub FailsBy : Bool → ℕ → List Machine → List Machine → List (List Piece) → List (List Piece) → Type 0
  FailsBy took node machines machines' wires wires' =
      (left taken : ℕ → Option (List ℕ)) (plan : Plan) → plan.failed node ≡ true → IsWired plan → Follows plan ports (length wires) → (reached : Reached state plan machines wires left taken)
      → GoesOn took plan machines machines' wires wires' left taken reached

  pub fails_took : (machines machines' : List Machine) (wires wires' : List (List Piece)) (node : ℕ) (machine machine' : Machine) (own : Ports)
      → slice_get machines node ≡ Some machine → slice_get ports node ≡ Some own → machines' ≡ slice_set machines node machine'
      → Took (state machine) (state machine') own.ins.items true wires wires' → FailsBy true node machines machines' wires wires'
  fails_took machines machines' wires wires' node machine machine' own at at_own set took left taken plan marked wired follows reached =
      let marks : true ≡ true → plan.failed node ≡ true = λ refused. marked in
      let replaced = replaced_by machines machines' node machine machine' at set in
      let here = subst (λ (ins : List ℕ). Took (state machine) (state machine') ins true wires wires') (sym (follows.ins node own at_own)) took in
      record {
        after = reached_took state plan wired machines machines' wires wires' left taken node machine machine' true marks replaced here reached;
        moves = took_moves state plan wired machines machines' wires wires' left taken node machine machine' true marks replaced here reached (length machines) (slice_get_within machines node machine at);
      }

  pub fails_broke : (machines machines' : List Machine) (wires wires' : List (List Piece)) (node : ℕ) (machine machine' : Machine)
      → slice_get machines node ≡ Some machine → machines' ≡ slice_set machines node machine' → Broke (state machine) (state machine') → wires' ≡ wires
      → FailsBy false node machines machines' wires wires'
  fails_broke machines machines' wires wires' node machine machine' at set broke same left taken plan marked wired follows reached =
      let replaced = replaced_by machines machines' node machine machine' at set in
      subst (λ (it : List (List Piece)). GoesOn false plan machines machines' wires it left taken reached) (sym same)
      (record {
        after = reached_broke state plan wired machines machines' wires left taken node machine machine' marked replaced broke reached;
        moves = broke_moves state plan wired machines machines' wires left taken node machine machine' marked replaced broke reached (length machines);
      })

  -- the same where a step was refused over the wires' slice
  pub slice_step_fails : (machines machines' : List Machine) (wires wires' given new : List (List Piece)) (node : ℕ) (machine machine' : Machine) (own : Ports) (result : Result Progress Memory)
      → slice_get machines node ≡ Some machine → slice_get ports node ≡ Some own → machines' ≡ slice_set machines node machine' → given ≡ wires → wires' ≡ new
      → OnErr result (is_take (state machine).act ≡ true → Took (state machine) (state machine') own.ins.items true given new)
      → OnErr result (is_take (state machine).act ≡ false → Broke (state machine) (state machine') × (new ≡ given))
      → OnErr result (FailsBy (is_take (state machine).act) node machines machines' wires wires')
  slice_step_fails machines machines' wires wires' given new node machine machine' own (Ok step) at at_own set old_is new_is took broke = tt
  slice_step_fails machines machines' wires wires' given new node machine machine' own (Err memory) at at_own set old_is new_is took broke =
      subst (λ (it : List (List Piece)). FailsBy (is_take (state machine).act) node machines machines' wires it) (sym new_is)
      (subst (λ (it : List (List Piece)). FailsBy (is_take (state machine).act) node machines machines' it new) old_is (by_act (is_take (state machine).act) refl))
    where
      by_act : (takes : Bool) → is_take (state machine).act ≡ takes → FailsBy takes node machines machines' given new
      by_act true is = fails_took machines machines' given new node machine machine' own at at_own set (took is)
      by_act false is = let here = broke is in fails_broke machines machines' given new node machine machine' at set here.0 here.1

  pub slice_broken : (machines : List Machine) (node : ℕ) (machine' : Machine) (result : Result Progress Memory) → OnErr result ((state machine').broken ≡ true)
      → OnErr result ((machine : Machine) → slice_get (slice_set machines node machine') node ≡ Some machine → (state machine).broken ≡ true)
  slice_broken machines node machine' (Ok step) broken = tt
  slice_broken machines node machine' (Err memory) broken = λ machine at. ap (λ (it : Machine). (state it).broken) (set_here machines node machine' machine at) ∙ broken

  pub slice_starves : (machines : List Machine) (wires' new : List (List Piece)) (node : ℕ) (machine' : Machine) (own : Ports) (result : Result Progress Memory)
      → slice_get ports node ≡ Some own → wires' ≡ new → (result ≡ Ok progress.Starves → Starves (state machine') own.ins.items new)
      → result ≡ Ok progress.Starves → (machine : Machine) (other : Ports) → slice_get (slice_set machines node machine') node ≡ Some machine → slice_get ports node ≡ Some other
      → Starves (state machine) other.ins.items wires'
  slice_starves machines wires' new node machine' own result at_own new_is starves is machine other at at_other =
      subst (λ (it : List (List Piece)). Starves (state machine) other.ins.items it) (sym new_is)
      (subst (λ (it : Machine). Starves (state it) other.ins.items new) (sym (set_here machines node machine' machine at))
      (subst (λ (it : Ports). Starves (state machine') it.ins.items new) same_own (starves is)))
    where
      same_own : own ≡ other
      same_own = cc

  -- the same where a step was made over the wires' slice
  pub slice_step_leads : (machines machines' : List Machine) (wires wires' given new : List (List Piece)) (node : ℕ) (machine machine' : Machine) (own : Ports) (result : Result Progress Memory)
      → slice_get machines node ≡ Some machine → slice_get ports node ≡ Some own → machines' ≡ slice_set machines node machine' → given ≡ wires → wires' ≡ new
      → (result ≡ Ok progress.Took → Took (state machine) (state machine') own.ins.items false given new)
      → (result ≡ Ok progress.Gave → Gave (state machine) (state machine') own.outs.items given new)
      → IfOk result (λ step. has_moved step ≡ false → (machine' ≡ machine) × (new ≡ given))
      → IfOk result (λ step. LeadsBy step machines machines' wires wires')
  slice_step_leads machines machines' wires wires' given new node machine machine' own result at at_own set old_is new_is took gave same =
      subst (λ (it : List (List Piece)). IfOk result (λ step. LeadsBy step machines machines' wires it)) (sym new_is)
      (subst (λ (it : List (List Piece)). IfOk result (λ step. LeadsBy step machines machines' it new)) old_is
      (step_leads machines machines' given new node machine machine' own result at at_own set took gave same))

pub broken_here : {Machine : Type 0} (state : Machine → State) (machines : List Machine) (node : ℕ) (machine' : Machine) → (state machine').broken ≡ true
    → (machine : Machine) → slice_get (slice_set machines node machine') node ≡ Some machine → (state machine).broken ≡ true
broken_here {Machine} state machines node machine' broken machine at = ap (λ (it : Machine). (state it).broken) (set_here machines node machine' machine at) ∙ broken

-- which edge a piece went from, and which one came to
module _ (was now : State) (ports : List Ports) (wires wires' given new : List (List Piece)) (node : ℕ) (own : Ports) (result : Result Progress Memory)
    (at_own : slice_get ports node ≡ Some own) (old_is : given ≡ wires) (new_is : wires' ≡ new) where
  same_ports : (other : Ports) → slice_get ports node ≡ Some other → own ≡ other
  same_ports other at_other = cc

  over_wires : (P : List (List Piece) → List (List Piece) → Type 0) → P given new → P wires wires'
  over_wires P holds = subst (λ (it : List (List Piece)). P wires it) (sym new_is) (subst (λ (it : List (List Piece)). P it new) old_is holds)

  pub slice_took : (ins : List ℕ) → ins ≡ own.ins.items → (result ≡ Ok progress.Took → Took was now ins false given new)
      → result ≡ Ok progress.Took → (other : Ports) → slice_get ports node ≡ Some other → TookFrom other.ins.items wires wires'
  slice_took ins ins_are took is other at_other =
      let step = took is in
      over_wires (TookFrom other.ins.items) (record {
        edge = step.edge;
        there = ap (has step.edge) (sym (ins_are ∙ ap (λ (it : Ports). it.ins.items) (same_ports other at_other))) ∙ stands-has ins step.port step.edge step.there;
        others = step.others;
      })

  pub slice_gave : (outs : List ℕ) → outs ≡ own.outs.items → (result ≡ Ok progress.Gave → Gave was now outs given new)
      → result ≡ Ok progress.Gave → (other : Ports) → slice_get ports node ≡ Some other → GaveTo other.outs.items wires wires'
  slice_gave outs outs_are gave is other at_other =
      let step = gave is in
      over_wires (GaveTo other.outs.items) (record {
        edge = step.edge;
        there = ap (has step.edge) (sym (outs_are ∙ ap (λ (it : Ports). it.outs.items) (same_ports other at_other))) ∙ stands-has outs step.port step.edge step.there;
        came = record { piece = step.moved.piece; last = step.moved.last; others = step.others };
      })

-- a step in which nothing moved has changed nothing
pub slice_same : {Machine : Type 0} (machines : List Machine) (wires wires' given new : List (List Piece)) (node : ℕ) (machine machine' : Machine) (result : Result Progress Memory)
    → slice_get machines node ≡ Some machine → given ≡ wires → wires' ≡ new
    → IfOk result (λ step. has_moved step ≡ false → (machine' ≡ machine) × (new ≡ given))
    → IfOk result (λ step. has_moved step ≡ false → (slice_set machines node machine' ≡ machines) × (wires' ≡ wires))
slice_same machines wires wires' given new node machine machine' (Ok step) at old_is new_is same = λ rests.
    let as_before = same rests in
    (ap (slice_set machines node) as_before.0 ∙ set_same machines node machine at, new_is ∙ as_before.1 ∙ old_is)
slice_same machines wires wires' given new node machine machine' (Err memory) at old_is new_is same = tt

-- a slice of all of a list, written back
module _ {X : Type 0} where
  drop_all : (count : ℕ) (items : List X) → count ≡ length items → drop count items ≡ []
  drop_all zero [] is = refl
  drop_all zero (item ∷ items) is = absurd (omega (arith, is))
  drop_all (suc count) [] is = refl
  drop_all (suc count) (item ∷ items) is = drop_all count items (omega (arith, is))

  take_all : (count : ℕ) (items : List X) → count ≡ length items → take count items ≡ items
  take_all zero [] is = refl
  take_all zero (item ∷ items) is = absurd (omega (arith, is))
  take_all (suc count) [] is = refl
  take_all (suc count) (item ∷ items) is = ap (λ (rest : List X). item ∷ rest) (take_all count items (omega (arith, is)))

  pub written_back : (old new : List X) (count : ℕ) → length new ≡ length old → count ≡ length old → take count (new ++ drop (length new) old) ≡ new
  written_back old new count same all =
      ap (λ (rest : List X). take count (new ++ rest)) (drop_all (length new) old same)
      ∙ ap (take count) (append-nil new) ∙ take_all count new (all ∙ sym same)

-- a part of plain pieces behind others is plain
plain_behind : (front back : List Piece) → list_all is_plain (front ++ back) ≡ true → list_all is_plain back ≡ true
plain_behind front back plain = (and_parts (list_all is_plain front) (list_all is_plain back) (sym (list_all-append is_plain front back) ∙ plain)).1

opened_first : (start now closed : Bool) → now ≡ (start && not closed) → now ≡ true → start ≡ true
opened_first start now closed is opened = (and_parts start (not closed) (sym is ∙ opened)).0

-- what a network that goes gives for a step
module _ {Machine : Type 0} (state : Machine → State) (ports : List Ports) (machines : List Machine) (wires : List (List Piece)) (left taken : ℕ → Option (List ℕ))
    (goes : Goes state ports machines wires left taken) where
  pub goes_plain : ArePlain wires
  goes_plain edge =
      plain_behind (goes.reached.took edge) (waiting_on wires edge) (ap (list_all is_plain) (sym (goes.reached.queued edge)) ∙ goes.reached.plain edge)

  pub goes_fits : (node : ℕ) (machine : Machine) (own : Ports) → slice_get machines node ≡ Some machine → slice_get ports node ≡ Some own
      → Fits (state machine) own.ins.items own.outs.items (length wires)
  goes_fits node machine own at at_own =
      let run = goes.reached.runs node machine at in
      let ins_are = goes.follows.ins node own at_own in
      let outs_are = goes.follows.outs node own at_own in
      subst (λ (ins : List ℕ). Fits (state machine) ins own.outs.items (length wires)) ins_are
      (subst (λ (outs : List ℕ). Fits (state machine) (goes.plan.ins node) outs (length wires)) outs_are
      (record {
        ins_known = λ port opened. goes.follows.in_ports node port (opened_first _ _ _ (run.ins port) opened);
        outs_known = λ port opened. goes.follows.out_ports node port (opened_first _ _ _ (run.outs port) opened);
        ins_wired = goes.follows.wired_ins node;
        outs_wired = goes.follows.wired_outs node;
        plain = λ port. run.numbered_outs port ∙ goes.follows.plain_outs node port;
      }))
