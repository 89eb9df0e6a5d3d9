-- What came of each node's job, as a run of a node of the graph.
use Rattle.std.proofs.Common.{◌≡◌, ℕ, zero, suc, List, [], ◌∷◌, Bool, map, slice_get, Some, refl, ap, sym}
use Rattle.fl_graph.specs.declared.graphs.Cell.{Cell}
use Rattle.fl_graph.specs.declared.kinds.NodeKind.{NodeKind}
use Rattle.fl_graph.specs.declared.machines.Machine.{Ghosts as MachineGhosts}
use Rattle.fl_graph.specs.declared.pieces.Piece.{Piece}
use Rattle.fl_nodes.specs.Came.{NodeCame}
use Rattle.fl_nodes.specs.declared.ends.OwnEnd.{Ghosts as EndGhosts}
use Rattle.fl_nodes.specs.declared.nodes.NodeJob.{NodeJob}
use Rattle.fl_nodes.specs.declared.nodes.NodeDone.{NodeDone}
use Rattle.fl_relay.specs.Edges.{EdgeId, put_on, taken_from}
use Rattle.fl_threads.specs.Threads.{EachOf}
use Rattle.fl_runner.specs.Runs.{IsOf}
use Rattle.fl_runner.proofs.RunLemmas.{NodeRun, RanAt}

module _ {M E G : Type 0} {machines : MachineGhosts M} {ends : EndGhosts E} where
  -- what came of a node
  abbrev pub run_for : (job : NodeJob M E G machines ends) (done : NodeDone E) → NodeCame job done → NodeRun
  run_for job done came = record {
    start = machines.state job.machine;
    now = came.came.now;
    outside = came.came.outside;
    rest = came.came.stands.moved.rest;
    taken = map taken_from done.takers.items;
    put = map put_on done.givers.items;
    was = ends.state job.own;
    is = ends.state done.own;
    failure = done.failure;
    selected = done.selected;
  }

  -- and of all nodes
  abbrev pub runs_for : (jobs : List (NodeJob M E G machines ends)) (dones : List (NodeDone E)) → EachOf (λ job done. NodeCame job done) jobs dones → List NodeRun
  runs_for [] [] came = []
  runs_for [] (done ∷ dones) came = []
  runs_for (job ∷ jobs) [] came = []
  runs_for (job ∷ jobs) (done ∷ dones) came = run_for job done came.0 ∷ runs_for jobs dones came.1

  pub all-ran : (ids : ℕ → EdgeId) (pieces : ℕ → List Piece) (cells : List (Cell NodeKind)) (jobs : List (NodeJob M E G machines ends)) (dones : List (NodeDone E)) (came : EachOf (λ job done. NodeCame job done) jobs dones)
      → EachOf (IsOf ids) cells jobs
      → EachOf (λ cell done. map put_on done.givers.items ≡ map pieces cell.outs) cells dones
      → EachOf (λ cell done. map taken_from done.takers.items ≡ map pieces cell.ins) cells dones
      → EachOf (RanAt pieces) cells (runs_for jobs dones came)
  all-ran ids pieces [] [] [] came own put taken = tt
  all-ran ids pieces [] [] (done ∷ dones) came own put taken = absurd came
  all-ran ids pieces [] (job ∷ jobs) dones came own put taken = absurd own
  all-ran ids pieces (cell ∷ cells) [] dones came own put taken = absurd own
  all-ran ids pieces (cell ∷ cells) (job ∷ jobs) [] came own put taken = absurd came
  all-ran ids pieces (cell ∷ cells) (job ∷ jobs) (done ∷ dones) came own put taken = (
    record {
      begins = own.0.begins;
      ran = came.0.came.stands.run;
      stopped = came.0.came.stopped;
      moved = came.0.came.stands.moved;
      rest = refl;
      selects = came.0.came.selects;
      taken = taken.0;
      put = put.0;
      reads = own.0.reads;
      writes = own.0.writes;
    },
    all-ran ids pieces cells jobs dones came.1 own.1 put.1 taken.1,
  )

  -- a run at a place is that of the job and of what came of it there
  pub run-at : (jobs : List (NodeJob M E G machines ends)) (dones : List (NodeDone E)) (came : EachOf (λ job done. NodeCame job done) jobs dones) (place : ℕ) (run : NodeRun) → slice_get (runs_for jobs dones came) place ≡ Some run
      → (job : NodeJob M E G machines ends) × ((done : NodeDone E) × ((slice_get jobs place ≡ Some job) × ((slice_get dones place ≡ Some done)
      × ((run.was ≡ ends.state job.own) × ((run.is ≡ ends.state done.own) × ((run.failure ≡ done.failure) × (run.selected ≡ done.selected)))))))
  run-at [] [] came place run is = absurd (cc)
  run-at [] (done ∷ dones) came place run is = absurd came
  run-at (job ∷ jobs) [] came place run is = absurd came
  run-at (job ∷ jobs) (done ∷ dones) came zero run is =
      let same : run_for job done came.0 ≡ run = cc in (
        job,
        (
          done,
          (
            refl,
            (
              refl,
              (
                sym (ap (λ (it : NodeRun). it.was) same),
                (sym (ap (λ (it : NodeRun). it.is) same), (sym (ap (λ (it : NodeRun). it.failure) same), sym (ap (λ (it : NodeRun). it.selected) same))),
              ),
            ),
          ),
        ),
      )
  run-at (job ∷ jobs) (done ∷ dones) came (suc place) run is = run-at jobs dones came.1 place run is

  pub runs-selected : (jobs : List (NodeJob M E G machines ends)) (dones : List (NodeDone E)) (came : EachOf (λ job done. NodeCame job done) jobs dones)
      → map (λ run. run.selected) (runs_for jobs dones came) ≡ map (λ done. done.selected) dones
  runs-selected [] [] came = refl
  runs-selected [] (done ∷ dones) came = absurd came
  runs-selected (job ∷ jobs) [] came = absurd came
  runs-selected (job ∷ jobs) (done ∷ dones) came = ap (λ (it : List Bool). done.selected ∷ it) (runs-selected jobs dones came.1)
