-- Points of a run (own): all that a network and its ends are at one time, and what leads from one to another.
use Rattle.std.specs.Prelude.{◌≡◌, ℕ, List, Bool, length, Option}
use Rattle.fl_graph.specs.Machines.{State}
use Rattle.fl_graph.specs.declared.pieces.Piece.{Piece}
use Rattle.fl_net.specs.Runs.{AreDrained, Goes, Halts, HasEnds, Leads}
use Rattle.fl_net.specs.declared.nets.Net.{Net}
use Rattle.fl_net.specs.declared.nets.Ports.{Ports}

pub record Point (Machine : Type 0) : Type 0 where
  pub ports : List Ports
  pub machines : List Machine
  pub wires : List (List Piece)
  pub left : ℕ → Option (List ℕ)
  pub taken : ℕ → Option (List ℕ)
  pub reads : ℕ → Bool
  pub writes : ℕ → Bool
  pub faults : ℕ → ℕ

-- the point at which a network and its ends are, where these tell so much
abbrev pub point : {Machine Ends : Type 0} → (left taken : Ends → ℕ → Option (List ℕ)) → (reads writes : Ends → ℕ → Bool) → (faults : Ends → ℕ → ℕ)
    → Net Machine → Ends → Point Machine
point left taken reads writes faults net ends = record {
  ports = net.ports.items;
  machines = net.machines.items;
  wires = net.wires.items;
  left = left ends;
  taken = taken ends;
  reads = reads ends;
  writes = writes ends;
  faults = faults ends;
}

module _ {Machine : Type 0} (state : Machine → State) where
  -- the network follows a plan, and has come here
  pub record IsUnderWay (here : Point Machine) : Type 0 where
    pub goes : Goes state here.ports here.machines here.wires here.left here.taken
    pub ends : HasEnds here.ports here.reads here.writes
    pub counted : length here.machines ≡ length here.ports

  -- it has come from one point to another
  pub record Advances (from to : Point Machine) : Type 0 where
    pub leads : Leads state from.ports from.machines to.machines from.wires to.wires from.left to.left from.taken to.taken
    pub ports : to.ports ≡ from.ports
    pub machines : length to.machines ≡ length from.machines
    pub wires : length to.wires ≡ length from.wires
    pub reads : (node : ℕ) → to.reads node ≡ from.reads node
    pub writes : (node : ℕ) → to.writes node ≡ from.writes node
    pub faults : (node : ℕ) → to.faults node ≡ from.faults node
    pub drained : AreDrained from.ports from.wires → AreDrained to.ports to.wires

  -- it halted behind a point, where its ends had taken this
  abbrev pub HaltsFrom : Point Machine → (ℕ → Option (List ℕ)) → Type 0
  HaltsFrom from taken = Halts state from.ports from.machines from.wires from.left from.taken taken
