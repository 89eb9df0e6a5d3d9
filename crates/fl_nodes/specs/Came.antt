-- What came of a node's thread (own), against the job that it got.
use Rattle.std.specs.Prelude.{◌≡◌, List, [], Bool, false, map, Option}
use Rattle.fl_graph.specs.Machines.{State}
use Rattle.fl_graph.specs.Runs.{Stopped}
use Rattle.fl_graph.specs.declared.machines.Machine.{Ghosts as MachineGhosts}
use Rattle.fl_graph.specs.declared.pieces.Piece.{Piece}
use Rattle.fl_nodes.specs.Ends.{EndState}
use Rattle.fl_nodes.specs.Work.{From, Stands, side}
use Rattle.fl_nodes.specs.declared.ends.OwnEnd.{Ghosts as EndGhosts}
use Rattle.fl_nodes.specs.declared.nodes.NodeJob.{NodeJob}
use Rattle.fl_nodes.specs.declared.nodes.NodeDone.{NodeDone}
use Rattle.fl_relay.specs.declared.edges.EdgeGiver.{EdgeGiver}
use Rattle.fl_relay.specs.declared.edges.EdgeTaker.{EdgeTaker}
use Rattle.fl_relay.specs.Edges.{gives_over, takes_over, put_on, taken_from}
use Rattle.ps_world.specs.declared.error.WorldErr.{WorldErr}

-- a node has run to its stop
pub record Came (from : From) (takers : List EdgeTaker) (givers : List EdgeGiver) (own : EndState) (failure : Option WorldErr) (selected : Bool) : Type 0 where
  -- what its machine is now, and the pieces that came from outside or went there
  pub now : State
  pub outside : List Piece
  pub stands : Stands from (record { state = now; takers = takers; givers = givers; own = own; failure = failure }) outside
      (side from.own.reads outside (map taken_from takers)) (side from.own.writes outside (map put_on givers))
  pub stopped : Stopped from.start now (side from.own.reads outside (map taken_from takers)) (side from.own.writes outside (map put_on givers))
  pub selects : now.broken ≡ false → selected ≡ now.selects (λ _. [])

module _ {M E G : Type 0} {machines : MachineGhosts M} {ends : EndGhosts E} where
  -- what a job's run is held against
  abbrev pub from_of : NodeJob M E G machines ends → From
  from_of job = record {
    start = machines.state job.machine;
    takes = map takes_over job.takers.items;
    gives = map gives_over job.givers.items;
    own = ends.state job.own;
  }

  pub record NodeCame (job : NodeJob M E G machines ends) (done : NodeDone E) : Type 0 where
    pub number : done.number ≡ job.number
    pub came : Came (from_of job) done.takers.items done.givers.items (ends.state done.own) done.failure done.selected
