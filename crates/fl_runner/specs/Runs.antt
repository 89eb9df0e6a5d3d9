-- The jobs of a graph's nodes (own), and what came of them.
use Rattle.std.specs.Prelude.{◌≡◌, ℕ, List, [], true, map, Option}
use Rattle.fl_graph.specs.declared.graphs.Cell.{Cell}
use Rattle.fl_graph.specs.declared.graphs.Graph.{Graph}
use Rattle.fl_graph.specs.declared.kinds.NodeKind.{NodeKind}
use Rattle.fl_graph.specs.declared.machines.Machine.{Ghosts as MachineGhosts}
use Rattle.fl_classes.specs.Flow.{is_source}
use Rattle.fl_classes.specs.Kinds.{is_writer}
use Rattle.fl_net.specs.Starts.{BeginsAs}
use Rattle.fl_core.specs.declared.end_lists.Ends.{Ends}
use Rattle.fl_core.specs.declared.end_lists.Ran.{Ran}
use Rattle.fl_core.specs.declared.end_lists.Ran.TheVariants as ran
use Rattle.fl_core.specs.declared.roles.Role.{Role}
use Rattle.fl_edges.specs.Settled.{AreSettled}
use Rattle.fl_nodes.specs.Came.{NodeCame}
use Rattle.fl_nodes.specs.declared.ends.OwnEnd.{Ghosts as EndGhosts}
use Rattle.fl_nodes.specs.declared.nodes.NodeDone.{NodeDone}
use Rattle.fl_nodes.specs.declared.nodes.NodeJob.{NodeJob}
use Rattle.fl_nodes.specs.declared.own.Own.{Own}
use Rattle.fl_relay.specs.Edges.{EdgeId, gives_over, takes_over}
use Rattle.fl_threads.specs.Threads.{EachOf}
use Rattle.fl_runner.specs.Lent.{end_with, held_by}
use Rattle.fl_runner.specs.Told.{Tells}
use Rattle.fl_runner.specs.declared.telling.Told.{Told}
use Rattle.fl_runner.specs.declared.telling.Told.TheVariants as told

-- what came of a run, as it is told, with the ends
abbrev pub ran_with : {R W I O : Type 0} → Told → Ends R W I O → Ran R W I O
ran_with (told.Done status) ends = ran.Done status ends
ran_with (told.Fault node) ends = ran.Fault node ends
ran_with told.Memory ends = ran.Memory ends

module _ {M E G : Type 0} {machines : MachineGhosts M} {ends : EndGhosts E} where
  -- a job is that of a node of a graph: its machine stands at its beginning, its halves are of the relays of its edges, its end is read where the node is
  -- a source and written where it writes, and a source has no in
  pub record IsOf (ids : ℕ → EdgeId) (cell : Cell NodeKind) (job : NodeJob M E G machines ends) : Type 0 where
    pub begins : BeginsAs (machines.state job.machine) cell
    pub takes : map takes_over job.takers.items ≡ map ids cell.ins
    pub gives : map gives_over job.givers.items ≡ map ids cell.outs
    pub reads : (ends.state job.own).reads ≡ is_source cell.kind
    pub writes : (ends.state job.own).writes ≡ is_writer cell.kind
    pub alone : is_source cell.kind ≡ true → cell.ins ≡ []

  pub record AreJobs (cells : List (Cell NodeKind)) (jobs : List (NodeJob M E G machines ends)) : Type 0 where
    pub ids : ℕ → EdgeId
    pub each : EachOf (IsOf ids) cells jobs

module _ {R W I O M G : Type 0} {machines : MachineGhosts M} {ends : EndGhosts (Own R W I O)} where
  -- all jobs have run to their stops, the edges were settled, and the ends of these roles are those that came back
  pub record AreRun (graph : Graph) (roles : List Role) (jobs : List (NodeJob M (Own R W I O) G machines ends)) (lent : Ends (Option R) (Option W) (Option I) (Option O)) (told : Told) : Type 0 where
    pub dones : List (NodeDone (Own R W I O))
    pub came : EachOf (λ job done. NodeCame job done) jobs dones
    pub settled : AreSettled graph.nodes (map (λ done. done.givers) dones) (map (λ done. done.takers) dones)
    pub back : map (λ one. held_by one lent) roles ≡ map (λ done. end_with done.own) dones
    pub tells : Tells graph.status dones told
