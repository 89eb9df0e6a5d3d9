-- How far a network has run (own): what each edge has carried, and what the ends gave and took.
use Rattle.std.specs.Prelude.{◌≡◌, ℕ, ◌<◌, List, [], ◌∷◌, ◌++◌, Bool, true, false, length, slice_get, get_or, Option, Some}
use Rattle.std.specs.List.{list_all}
use Rattle.ps_world.specs.Told.{then_bytes, bytes_then, GrewByPrefix, IsEnded}
use Rattle.fl_graph.specs.Net.{has, count}
use Rattle.fl_graph.specs.Machines.{State}
use Rattle.fl_graph.specs.Runs.{text_of, has_broken, has_end, Run, is_clean}
use Rattle.fl_graph.specs.declared.pieces.Piece.{Piece}
use Rattle.fl_net.specs.Laws.{at_ports, Keeps}
use Rattle.fl_net.specs.Steps.{has_bytes, is_plain, waiting_on}
use Rattle.fl_net.specs.declared.nets.Ports.{Ports}

-- what a network's run is held against: the edges of each node, the machines' beginnings, what the ends held then, and which nodes may have
-- failed
pub record Plan : Type 0 where
  pub ins : ℕ → List ℕ
  pub outs : ℕ → List ℕ
  pub starts : ℕ → State
  -- the nodes whose in comes from outside, and those whose out goes there
  pub reads : ℕ → Bool
  pub writes : ℕ → Bool
  pub left : ℕ → Option (List ℕ)
  pub taken : ℕ → Option (List ℕ)
  pub failed : ℕ → Bool

-- each edge is taken by one node and given by one, and those from outside and to the outside by none. A node that writes has the edge to the
-- outside before all others
pub record IsWired (plan : Plan) : Type 0 where
  pub in_once : (node edge : ℕ) → has edge (plan.ins node) ≡ true → count edge (plan.ins node) ≡ 1
  pub out_once : (node edge : ℕ) → has edge (plan.outs node) ≡ true → count edge (plan.outs node) ≡ 1
  pub one_taker : (node other edge : ℕ) → has edge (plan.ins node) ≡ true → has edge (plan.ins other) ≡ true → node ≡ other
  pub one_giver : (node other edge : ℕ) → has edge (plan.outs node) ≡ true → has edge (plan.outs other) ≡ true → node ≡ other
  pub from_outside : (node other edge : ℕ) → plan.reads node ≡ true → has edge (plan.ins node) ≡ true → has edge (plan.outs other) ≡ false
  pub to_outside : (node other edge : ℕ) → plan.writes node ≡ true → slice_get (plan.outs node) 0 ≡ Some edge → has edge (plan.ins other) ≡ false
  pub one_in : (node : ℕ) → plan.reads node ≡ true → (edge : ℕ) × (plan.ins node ≡ edge ∷ [])
  pub first_out : (node : ℕ) → plan.writes node ≡ true → (edge : ℕ) × (slice_get (plan.outs node) 0 ≡ Some edge)

-- the network's ports are the plan's, and their edges have wires
pub record Follows (plan : Plan) (ports : List Ports) (wires : ℕ) : Type 0 where
  pub ins : (node : ℕ) (own : Ports) → slice_get ports node ≡ Some own → plan.ins node ≡ own.ins.items
  pub outs : (node : ℕ) (own : Ports) → slice_get ports node ≡ Some own → plan.outs node ≡ own.outs.items
  pub reads : (node : ℕ) (own : Ports) → slice_get ports node ≡ Some own → plan.reads node ≡ own.reads
  pub writes : (node : ℕ) (own : Ports) → slice_get ports node ≡ Some own → plan.writes node ≡ own.writes
  pub wired_ins : (node port : ℕ) → port < length (plan.ins node) → get_or (plan.ins node) port 0 < wires
  pub wired_outs : (node port : ℕ) → port < length (plan.outs node) → get_or (plan.outs node) port 0 < wires
  pub in_ports : (node port : ℕ) → (plan.starts node).takes port ≡ true → port < length (plan.ins node)
  pub out_ports : (node port : ℕ) → (plan.starts node).puts port ≡ true → port < length (plan.outs node)
  pub plain_outs : (node port : ℕ) → (plan.starts node).numbered_outs port ≡ false

module _ {Machine : Type 0} (state : Machine → State) where
  -- no machine is broken, and no edge has carried a Broken
  pub record IsUnbroken (machines : List Machine) (put : ℕ → List Piece) : Type 0 where
    pub whole : (node : ℕ) (machine : Machine) → slice_get machines node ≡ Some machine → (state machine).broken ≡ false
    pub edges : (edge : ℕ) → has_broken (put edge) ≡ false

  -- so far
  pub record Reached (plan : Plan) (machines : List Machine) (wires : List (List Piece)) (left taken : ℕ → Option (List ℕ)) : Type 0 where
    -- the pieces that were taken from each edge, and those that were put on it
    pub took : ℕ → List Piece
    pub put : ℕ → List Piece
    pub queued : (edge : ℕ) → put edge ≡ took edge ++ waiting_on wires edge
    pub clean : (edge : ℕ) → is_clean (put edge) ≡ true
    pub plain : (edge : ℕ) → list_all is_plain (put edge) ≡ true
    pub sized : (edge : ℕ) → list_all has_bytes (put edge) ≡ true
    pub runs : (node : ℕ) (machine : Machine) → slice_get machines node ≡ Some machine
        → Run (plan.starts node) (state machine) (at_ports (plan.ins node) took) (at_ports (plan.outs node) put) (plan.failed node)
    pub sound : ((node : ℕ) → plan.failed node ≡ false) → IsUnbroken machines put
    pub read : (node edge : ℕ) → plan.reads node ≡ true → plan.ins node ≡ edge ∷ [] → plan.left node ≡ bytes_then (text_of (put edge)) (left node)
    pub ended : (node edge : ℕ) → plan.reads node ≡ true → plan.ins node ≡ edge ∷ [] → has_end (put edge) ≡ true → IsEnded (left node)
    pub written : (node edge : ℕ) → plan.writes node ≡ true → slice_get (plan.outs node) 0 ≡ Some edge → taken node ≡ then_bytes (plan.taken node) (text_of (took edge))

-- a run that halted here: each node kept its equation, and the ends took fronts of what was put
pub record Halted (plan : Plan) (nodes : ℕ) (taken : ℕ → Option (List ℕ)) : Type 0 where
  pub took : ℕ → List Piece
  pub put : ℕ → List Piece
  pub waiting : ℕ → List Piece
  pub queued : (edge : ℕ) → put edge ≡ took edge ++ waiting edge
  pub clean : (edge : ℕ) → is_clean (put edge) ≡ true
  pub keeps : (node : ℕ) → node < nodes → Keeps (plan.starts node).due (at_ports (plan.ins node) took) (at_ports (plan.outs node) put)
  pub left : ℕ → Option (List ℕ)
  pub read : (node edge : ℕ) → plan.reads node ≡ true → plan.ins node ≡ edge ∷ [] → plan.left node ≡ bytes_then (text_of (put edge)) (left node)
  pub ended : (node edge : ℕ) → plan.reads node ≡ true → plan.ins node ≡ edge ∷ [] → has_end (put edge) ≡ true → IsEnded (left node)
  pub written : (node edge : ℕ) → plan.writes node ≡ true → slice_get (plan.outs node) 0 ≡ Some edge → GrewByPrefix (plan.taken node) (taken node) (text_of (put edge))

-- whatever plan the network follows, it goes from the one point to the other
module _ {Machine : Type 0} (state : Machine → State) (ports : List Ports) where
  abbrev pub Leads : List Machine → List Machine → List (List Piece) → List (List Piece) → (ℕ → Option (List ℕ)) → (ℕ → Option (List ℕ)) → (ℕ → Option (List ℕ)) → (ℕ → Option (List ℕ)) → Type 0
  Leads machines machines' wires wires' left left' taken taken' =
      (plan : Plan) → IsWired plan → Follows plan ports (length wires) → Reached state plan machines wires left taken → Reached state plan machines' wires' left' taken'

  -- or halts
  abbrev pub Halts : List Machine → List (List Piece) → (ℕ → Option (List ℕ)) → (ℕ → Option (List ℕ)) → (ℕ → Option (List ℕ)) → Type 0
  Halts machines wires left taken taken' =
      (plan : Plan) → IsWired plan → Follows plan ports (length wires) → Reached state plan machines wires left taken → Halted plan (length machines) taken'

  -- it follows a plan, and has come here
  pub record Goes (machines : List Machine) (wires : List (List Piece)) (left taken : ℕ → Option (List ℕ)) : Type 0 where
    pub plan : Plan
    pub wired : IsWired plan
    pub follows : Follows plan ports (length wires)
    pub reached : Reached state plan machines wires left taken

-- each node that reads or writes has an end to it
pub record HasEnds (ports : List Ports) (reads writes : ℕ → Bool) : Type 0 where
  pub reading : (node : ℕ) (own : Ports) → slice_get ports node ≡ Some own → own.reads ≡ true → reads node ≡ true
  pub writing : (node : ℕ) (own : Ports) → slice_get ports node ≡ Some own → own.writes ≡ true → writes node ≡ true

-- nothing waits for the outside
abbrev pub AreDrained : List Ports → List (List Piece) → Type 0
AreDrained ports wires = (node : ℕ) (own : Ports) → slice_get ports node ≡ Some own → own.writes ≡ true → waiting_on wires (get_or own.outs.items 0 0) ≡ []
