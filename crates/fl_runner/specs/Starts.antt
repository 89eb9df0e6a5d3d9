-- What the nodes of a graph begin with (own): their machines, and the halves of their edges.
use Rattle.std.specs.Prelude.{ℕ, List}
use Rattle.std.specs.Global.{Vec}
use Rattle.fl_graph.specs.Machines.{State}
use Rattle.fl_graph.specs.declared.graphs.Cell.{Cell}
use Rattle.fl_graph.specs.declared.kinds.NodeKind.{NodeKind}
use Rattle.fl_net.specs.Starts.{BeginsAs}
use Rattle.fl_edges.specs.Halves.{HasHalves}
use Rattle.fl_graph.specs.declared.machines.Machine.{Ghosts as MachineGhosts}
use Rattle.fl_nodes.specs.declared.ends.OwnEnd.{Ghosts as EndGhosts}
use Rattle.fl_nodes.specs.declared.nodes.NodeJob.{NodeJob}
use Rattle.fl_relay.specs.declared.edges.EdgeGiver.{EdgeGiver}
use Rattle.fl_relay.specs.declared.edges.EdgeTaker.{EdgeTaker}
use Rattle.fl_relay.specs.Edges.{EdgeId}
use Rattle.fl_threads.specs.Threads.{EachOf}
use Rattle.fl_runner.specs.declared.starts.NodeStart.{NodeStart}

module _ {M : Type 0} (state : M → State) where
  -- a node's machine stands at its beginning, and its halves are those of its edges
  pub record IsStart (ids : ℕ → EdgeId) (cell : Cell NodeKind) (start : NodeStart M) : Type 0 where
    pub begins : BeginsAs (state start.machine) cell
    pub halves : HasHalves ids cell start.halves

  pub record AreStarts (cells : List (Cell NodeKind)) (starts : List (NodeStart M)) : Type 0 where
    pub ids : ℕ → EdgeId
    pub each : EachOf (IsStart ids) cells starts

-- the machine and the halves that a node begins with, and those that its job has
abbrev pub start_parts : {M : Type 0} → NodeStart M → M × (Vec EdgeTaker × Vec EdgeGiver)
start_parts start = (start.machine, (start.halves.takers, start.halves.givers))

module _ {M E G : Type 0} {machines : MachineGhosts M} {ends : EndGhosts E} where
  abbrev pub job_parts : NodeJob M E G machines ends → M × (Vec EdgeTaker × Vec EdgeGiver)
  job_parts job = (job.machine, (job.takers, job.givers))
