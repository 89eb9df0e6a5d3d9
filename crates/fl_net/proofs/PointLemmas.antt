-- One stretch of a run behind another.
use Rattle.std.proofs.Common.{◌≡◌, ℕ, List, length, slice_get, ◌≤◌, Option, Result, Ok, Err, refl, ap, sym, subst, ◌∙◌}
use Rattle.ps_world.specs.Counts.{Rose}
use Rattle.fl_graph.specs.Machines.{State}
use Rattle.fl_net.specs.Causes.{Causes}
use Rattle.fl_net.specs.Runs.{AreDrained, Follows, Leads, Halts, Goes}
use Rattle.fl_net.specs.Points.{Point, IsUnderWay, Advances, HaltsFrom}
use Rattle.fl_net.specs.declared.nets.Ports.{Ports}
use Rattle.fl_net.specs.declared.outside.Halt.{Halt}
use Rattle.fl_net.specs.declared.outside.Halt.TheVariants.{Fault}
use Rattle.fl_net.proofs.TurnLemmas.{leads_on, halts_on}

module _ {Machine : Type 0} (state : Machine → State) where
  pub stays_here : (here : Point Machine) → Advances state here here
  stays_here here = record {
    leads = λ plan wired follows reached. reached;
    ports = refl;
    machines = refl;
    wires = refl;
    reads = λ node. refl;
    writes = λ node. refl;
    faults = λ node. refl;
    drained = λ drained. drained;
  }

  module _ (from mid : Point Machine) (advances : Advances state from mid) where
    pub advances_on : (to : Point Machine) → Advances state mid to → Advances state from to
    advances_on to then = record {
      leads = leads_on state from.ports from.machines mid.machines to.machines from.wires mid.wires to.wires from.left mid.left to.left from.taken mid.taken to.taken
          advances.wires advances.leads
          (subst (λ (ports : List Ports). Leads state ports mid.machines to.machines mid.wires to.wires mid.left to.left mid.taken to.taken) advances.ports then.leads);
      ports = then.ports ∙ advances.ports;
      machines = then.machines ∙ advances.machines;
      wires = then.wires ∙ advances.wires;
      reads = λ node. then.reads node ∙ advances.reads node;
      writes = λ node. then.writes node ∙ advances.writes node;
      faults = λ node. then.faults node ∙ advances.faults node;
      drained = λ drained. then.drained (advances.drained drained);
    }

    pub halts_behind : (taken : ℕ → Option (List ℕ)) → HaltsFrom state mid taken → HaltsFrom state from taken
    halts_behind taken halts =
        halts_on state from.ports from.machines mid.machines mid.machines from.wires mid.wires mid.wires from.left mid.left mid.left from.taken mid.taken taken
        advances.wires advances.machines advances.leads
        (subst (λ (ports : List Ports). Halts state ports mid.machines mid.wires mid.left mid.taken taken) advances.ports halts)

    pub causes_behind : {T : Type 0} (result : Result T Halt) (now : ℕ → ℕ) → Causes mid.faults now result → Causes from.faults now result
    causes_behind result now causes = record {
      fault = λ node is. subst (λ (before : ℕ). Rose before (now node)) (advances.faults node) (causes.fault node is);
      others = λ node not. causes.others node not ∙ advances.faults node;
      later = λ node. subst (λ (before : ℕ). before ≤ now node) (advances.faults node) (causes.later node);
    }

    pub under_way : IsUnderWay state from → IsUnderWay state mid
    under_way was = record {
      goes = subst (λ (ports : List Ports). Goes state ports mid.machines mid.wires mid.left mid.taken) (sym advances.ports)
          (record {
            plan = was.goes.plan;
            wired = was.goes.wired;
            follows = subst (λ (count : ℕ). Follows was.goes.plan from.ports count) (sym advances.wires) was.goes.follows;
            reached = advances.leads was.goes.plan was.goes.wired was.goes.follows was.goes.reached;
          });
      ends = record {
        reading = λ node own at reads. advances.reads node ∙ was.ends.reading node own (ap (λ (ports : List Ports). slice_get ports node) (sym advances.ports) ∙ at) reads;
        writing = λ node own at writes. advances.writes node ∙ was.ends.writing node own (ap (λ (ports : List Ports). slice_get ports node) (sym advances.ports) ∙ at) writes;
      };
      counted = advances.machines ∙ was.counted ∙ ap (λ (ports : List Ports). length ports) (sym advances.ports);
    }

  -- one turn
  pub turned : (from to : Point Machine) → Leads state from.ports from.machines to.machines from.wires to.wires from.left to.left from.taken to.taken
      → to.ports ≡ from.ports → length to.machines ≡ length from.machines → length to.wires ≡ length from.wires
      → ((node : ℕ) → to.reads node ≡ from.reads node) → ((node : ℕ) → to.writes node ≡ from.writes node) → ((node : ℕ) → to.faults node ≡ from.faults node)
      → (AreDrained from.ports from.wires → AreDrained to.ports to.wires) → Advances state from to
  turned from to leads ports machines wires reads writes faults drained = record {
    leads = leads;
    ports = ports;
    machines = machines;
    wires = wires;
    reads = reads;
    writes = writes;
    faults = faults;
    drained = drained;
  }

-- no count has changed where the answer is no halt
pub calm : {T : Type 0} (before now : ℕ → ℕ) (value : T) (result : Result T Halt) → Causes before now result → result ≡ Ok value → (node : ℕ) → now node ≡ before node
calm before now value result causes is node = causes.others node (λ halted. absurd (differ halted))
  where
    differ : result ≡ Err (Fault node) → ⊥
    differ halted = absurd (cc)
