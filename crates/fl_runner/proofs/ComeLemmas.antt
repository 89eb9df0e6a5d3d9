-- What comes of the jobs of a graph's nodes is what comes of the graph.
use Rattle.std.proofs.Common.{◌≡◌, ℕ, suc, List, [], ◌∷◌, Bool, true, false, if◌then◌else◌, map, slice_get, Option, Some, None, is_some, refl, ap, sym, subst, ◌∙◌, arith}
use mathlib.Core.Path.{fun_ext}
use Rattle.std.specs.Option.{option_and_then, option_map}
use Rattle.std.proofs.lemmas.Option.{slice_get_within}
use Rattle.ps_world.specs.Told.{then_bytes, GrewByPrefix}
use Rattle.ps_world.specs.declared.error.WorldErr.{WorldErr}
use Rattle.fl_graph.specs.Valid.{Valid}
use Rattle.fl_graph.specs.declared.graphs.Cell.{Cell}
use Rattle.fl_graph.specs.declared.graphs.Graph.{Graph}
use Rattle.fl_graph.specs.declared.kinds.NodeKind.{NodeKind}
use Rattle.fl_graph.specs.declared.kinds.NodeKind.TheVariants as kind
use Rattle.fl_graph.specs.declared.kinds.From.TheVariants as from
use Rattle.fl_graph.specs.declared.kinds.To.TheVariants as to
use Rattle.fl_graph.specs.declared.machines.Machine.{Ghosts as MachineGhosts}
use Rattle.fl_classes.specs.Flow.{outcome, status_by}
use Rattle.fl_core.specs.EndLists.{Blames, GrewByFiles, HasItsEnds, IfDone, KeepsOthers, NodeEnd, Reader, Writer, Input, Output, end_at, end_in, end_of, faults_at, faults_by, file_nodes, given_back, left_at, left_by, numbers_of, own_end, place_of, taken_at, taken_by}
use Rattle.fl_net.specs.Ends.{HasRead, HasWritten, HasWrittenFronts}
use Rattle.fl_core.specs.GraphRuns.{HasRun}
use Rattle.fl_net.specs.Plans.{AreTold}
use Rattle.fl_core.specs.Roles.{HasRoles, end_by, is_used, role_of}
use Rattle.fl_core.specs.declared.end_lists.Ends.{Ends}
use Rattle.fl_core.specs.declared.end_lists.Ran.{Ran}
use Rattle.fl_core.specs.declared.end_lists.Ran.TheVariants as ran
use Rattle.fl_core.specs.declared.roles.Role.{Role}
use Rattle.fl_core.specs.declared.roles.Role.TheVariants as role
use Rattle.fl_net.proofs.OutsideLemmas.{some_at}
use Rattle.fl_core.proofs.RoleLemmas.{keeps_others}
use Rattle.fl_edges.specs.Settled.{AreSettled}
use Rattle.fl_edges.proofs.EachLemmas.{each-length}
use Rattle.fl_nodes.specs.Came.{NodeCame}
use Rattle.fl_nodes.specs.Ends.{EndState}
use Rattle.fl_nodes.specs.Work.{is_fault}
use Rattle.fl_nodes.specs.declared.ends.OwnEnd.{Ghosts as EndGhosts}
use Rattle.fl_nodes.specs.declared.nodes.NodeDone.{NodeDone}
use Rattle.fl_nodes.specs.declared.nodes.NodeJob.{NodeJob}
use Rattle.fl_nodes.specs.declared.own.Own.{Own}
use Rattle.fl_threads.specs.Threads.{EachOf}
use Rattle.fl_runner.specs.Lent.{end_with, held_by, lent_of}
use Rattle.fl_runner.specs.Runs.{AreJobs, AreRun, IsOf, ran_with}
use Rattle.fl_runner.specs.Told.{IsFirstFault, NoFault, NoneFailed, Tells}
use Rattle.fl_runner.specs.declared.telling.Told.{Told}
use Rattle.fl_runner.specs.declared.telling.Told.TheVariants as told
use Rattle.fl_runner.proofs.DoneLemmas.{done_runs, fault_runs, memory_runs}
use Rattle.fl_runner.proofs.JobLemmas.{all-ran, run-at, runs-selected, runs_for}
use Rattle.fl_runner.proofs.LendLemmas.{held-all, held-each, lent_of-numbers}
use Rattle.fl_runner.proofs.PreparedLemmas.{state_by}
use Rattle.fl_runner.proofs.RunLemmas.{NodeRun, RanAt}
use Rattle.fl_runner.proofs.TogetherLemmas.{end_told}

some_is : {X : Type 0} (one other : X) → Some one ≡ Some other → one ≡ other
some_is one other is = cc

-- what holds of each item and of what another tells holds of the two
each-told : {A B C : Type 0} (Holds : A → C → Type 0) (tell : B → C) (ones : List A) (others : List B) → EachOf Holds ones (map tell others) → EachOf (λ one other. Holds one (tell other)) ones others
each-told Holds tell [] [] each = tt
each-told Holds tell [] (other ∷ others) each = absurd each
each-told Holds tell (one ∷ ones) [] each = absurd each
each-told Holds tell (one ∷ ones) (other ∷ others) each = (each.0, each-told Holds tell ones others each.1)

-- the roles are those of the same graph over the ends that came back
roles-back : {R W I O : Type 0} (cells : List (Cell NodeKind)) (ends ends' : Ends R W I O) (roles : List Role) → numbers_of ends'.readers.items ≡ numbers_of ends.readers.items
    → numbers_of ends'.writers.items ≡ numbers_of ends.writers.items → HasRoles cells ends roles → HasRoles cells ends' roles
roles-back cells ends ends' roles readers writers own = record {
  all = own.all;
  each = λ node cell one at there.
      own.each node cell one at there
      ∙ ap (λ (numbers : List ℕ). role_of cell.kind node numbers (numbers_of ends.writers.items)) (sym readers)
      ∙ ap (λ (numbers : List ℕ). role_of cell.kind node (numbers_of ends'.readers.items) numbers) (sym writers);
}

module _ {R W I O : Type 0} (cells : List (Cell NodeKind)) (ends ends' : Ends R W I O) (roles : List Role) (own : HasRoles cells ends roles)
    (readers : numbers_of ends'.readers.items ≡ numbers_of ends.readers.items) (writers : numbers_of ends'.writers.items ≡ numbers_of ends.writers.items)
    (others : (one : Role) → is_used roles one ≡ false → end_by one ends' ≡ end_by one ends) where
  -- the ends that no node has are as they were
  pub keeps-back : KeepsOthers cells ends ends'
  keeps-back = keeps_others roles roles ends ends' (λ i. record { roles = roles; readers = readers i; writers = writers i; idle = fun_ext idle i }) cells own
    where
      by_test : (one : Role) (used : Bool) → is_used roles one ≡ used → (if used then None else end_by one ends') ≡ (if used then None else end_by one ends)
      by_test one true is = refl
      by_test one false is = others one is

      idle : (one : Role) → (if is_used roles one then None else end_by one ends') ≡ (if is_used roles one then None else end_by one ends)
      idle one = by_test one (is_used roles one) refl

module _ {R W I O : Type 0} (of_reader : R → Option (List ℕ)) (of_input : I → Option (List ℕ)) (of_writer : W → Option (List ℕ)) (of_output : O → Option (List ℕ))
    (reader_faults : R → ℕ) (writer_faults : W → ℕ) (input_faults : I → ℕ) (output_faults : O → ℕ) where
  abbrev state_of : Option (NodeEnd R W I O) → EndState
  state_of found = state_by of_reader of_writer of_input of_output reader_faults writer_faults input_faults output_faults found

  module _ {M G : Type 0} {machines : MachineGhosts M} {own_ends : EndGhosts (Own R W I O)} (end_is : (end : Own R W I O) → own_ends.state end ≡ state_of (end_with end))
      (graph : Graph) (valid : Valid graph.nodes graph.status) (ends : Ends R W I O) (roles : List Role) (own : HasRoles graph.nodes ends roles)
      (jobs : List (NodeJob M (Own R W I O) G machines own_ends)) (are : AreJobs graph.nodes jobs) (owns : map (λ job. end_with job.own) jobs ≡ map (λ one. end_by one ends) roles)
      (lent : Ends (Option R) (Option W) (Option I) (Option O)) (ends' : Ends R W I O)
      (readers : lent.readers.items ≡ lent_of ends'.readers.items) (writers : lent.writers.items ≡ lent_of ends'.writers.items) (input : lent.input ≡ Some ends'.input) (out : lent.out ≡ Some ends'.out)
      (reader_numbers : numbers_of lent.readers.items ≡ numbers_of ends.readers.items) (writer_numbers : numbers_of lent.writers.items ≡ numbers_of ends.writers.items)
      (others : (one : Role) → is_used roles one ≡ false → held_by one lent ≡ end_by one ends) where
    readers-back : numbers_of ends'.readers.items ≡ numbers_of ends.readers.items
    readers-back = sym (ap numbers_of readers ∙ lent_of-numbers ends'.readers.items) ∙ reader_numbers

    writers-back : numbers_of ends'.writers.items ≡ numbers_of ends.writers.items
    writers-back = sym (ap numbers_of writers ∙ lent_of-numbers ends'.writers.items) ∙ writer_numbers

    held-back : (one : Role) → held_by one lent ≡ end_by one ends'
    held-back one = held-all ends' lent readers writers input out one

    keeps : KeepsOthers graph.nodes ends ends'
    keeps = keeps-back graph.nodes ends ends' roles own readers-back writers-back (λ one idle. sym (held-back one) ∙ others one idle)

    module _ (dones : List (NodeDone (Own R W I O))) (came : EachOf (λ job done. NodeCame job done) jobs dones)
        (settled : AreSettled graph.nodes (map (λ done. done.givers) dones) (map (λ done. done.takers) dones)) (back : map (λ one. held_by one lent) roles ≡ map (λ done. end_with done.own) dones) where
      ran-all : EachOf (RanAt settled.pieces) graph.nodes (runs_for jobs dones came)
      ran-all =
          all-ran are.ids settled.pieces graph.nodes jobs dones came are.each
          (each-told _ (λ (done : NodeDone (Own R W I O)). done.givers) graph.nodes dones settled.put)
          (each-told _ (λ (done : NodeDone (Own R W I O)). done.takers) graph.nodes dones settled.taken)

      was-there : (node : ℕ) (run : NodeRun) → slice_get (runs_for jobs dones came) node ≡ Some run → run.was ≡ state_of (end_at graph.nodes ends node)
      was-there node run found =
          let at = run-at jobs dones came node run found in
          at.1.1.1.1.0
          ∙ end_is at.0.own
          ∙ ap state_of (end_told graph.nodes ends roles own (λ (job : NodeJob M (Own R W I O) G machines own_ends). end_with job.own) jobs owns node at.0 at.1.1.0)

      is-there : (node : ℕ) (run : NodeRun) → slice_get (runs_for jobs dones came) node ≡ Some run → run.is ≡ state_of (end_at graph.nodes ends' node)
      is-there node run found =
          let at = run-at jobs dones came node run found in
          at.1.1.1.1.1.0
          ∙ end_is at.1.0.own
          ∙ ap state_of
          (end_told graph.nodes ends' roles (roles-back graph.nodes ends ends' roles readers-back writers-back own) (λ (done : NodeDone (Own R W I O)). end_with done.own) dones
          (sym back ∙ held-each ends' lent readers writers input out roles) node at.1.0 at.1.1.1.0)

      -- what is said of what came of a node is said of its run
      failed-there : (node : ℕ) (run : NodeRun) → slice_get (runs_for jobs dones came) node ≡ Some run → (done : NodeDone (Own R W I O)) × ((slice_get dones node ≡ Some done) × (run.failure ≡ done.failure))
      failed-there node run found =
          let at = run-at jobs dones came node run found in
          (at.1.0, (at.1.1.1.0, at.1.1.1.1.1.1.0))

      none-failed : NoneFailed dones → (node : ℕ) (run : NodeRun) → slice_get (runs_for jobs dones came) node ≡ Some run → is_some run.failure ≡ false
      none-failed none node run found =
          let at = failed-there node run found in
          ap (λ (it : Option WorldErr). is_some it) at.1.1 ∙ none node at.0 at.1.0

      no-fault : NoFault dones → (node : ℕ) (run : NodeRun) → slice_get (runs_for jobs dones came) node ≡ Some run → is_fault run.failure ≡ false
      no-fault none node run found =
          let at = failed-there node run found in
          ap is_fault at.1.1 ∙ none node at.0 at.1.0

      first-fault : (node : ℕ) → IsFirstFault dones node → HasRun of_reader of_input of_writer of_output reader_faults writer_faults input_faults output_faults graph ends (ran.Fault node ends')
      first-fault node first =
          let long = each-length (RanAt settled.pieces) graph.nodes (runs_for jobs dones came) ran-all in
          let as_many = each-length (λ (job : NodeJob M (Own R W I O) G machines own_ends) (done : NodeDone (Own R W I O)). NodeCame job done) jobs dones came in
          let of_nodes = each-length (IsOf are.ids) graph.nodes jobs are.each in
          let within = slice_get_within dones node first.done first.there in
          let run = some_at (runs_for jobs dones came) node (omega (arith, within, long, as_many, of_nodes)) in
          let at = failed-there node run.0 run.1 in
          let same : at.0 ≡ first.done = some_is at.0 first.done (sym at.1.0 ∙ first.there) in
          fault_runs of_reader of_input of_writer of_output reader_faults writer_faults input_faults output_faults graph valid ends ends' keeps (runs_for jobs dones came) settled.pieces settled.clean ran-all was-there is-there
          node run.0 run.1 (ap is_fault (at.1.1 ∙ ap (λ (it : NodeDone (Own R W I O)). it.failure) same) ∙ first.fault)
          (λ other one below found. let here = failed-there other one found in ap is_fault here.1.1 ∙ first.lower other here.0 below here.1.0)

      ran-so : (outcome : Told) → Tells graph.status dones outcome → HasRun of_reader of_input of_writer of_output reader_faults writer_faults input_faults output_faults graph ends (ran_with outcome ends')
      ran-so (told.Done status) tells =
          done_runs of_reader of_input of_writer of_output reader_faults writer_faults input_faults output_faults graph valid ends ends' keeps (runs_for jobs dones came) settled.pieces settled.clean ran-all was-there is-there
          status (none-failed tells.0) (tells.1 ∙ ap (status_by graph.status) (sym (runs-selected jobs dones came)))
      ran-so (told.Fault node) tells = first-fault node tells
      ran-so told.Memory tells =
          memory_runs of_reader of_input of_writer of_output reader_faults writer_faults input_faults output_faults graph valid ends ends' keeps (runs_for jobs dones came) settled.pieces settled.clean ran-all was-there is-there
          (no-fault tells)

    -- the run of the jobs is that of the graph
    pub has_run : (outcome : Told) → AreRun graph roles jobs lent outcome → HasRun of_reader of_input of_writer of_output reader_faults writer_faults input_faults output_faults graph ends (ran_with outcome ends')
    has_run outcome come = ran-so come.dones come.came come.settled come.back outcome come.tells

  -- what comes of a graph over ends that are the same as others comes of it over these
  module _ (graph : Graph) (first ends : Ends R W I O) (readers : first.readers.items ≡ ends.readers.items) (writers : first.writers.items ≡ ends.writers.items) (input : first.input ≡ ends.input)
      (out : first.out ≡ ends.out) where
    abbrev as_reader : Option R → Option (NodeEnd R W I O)
    as_reader found = option_map Reader found

    abbrev as_writer : Option W → Option (NodeEnd R W I O)
    as_writer found = option_map Writer found

    own-same : (it : NodeKind) (node : ℕ) → own_end it node first ≡ own_end it node ends
    own-same (kind.Source from.Input) node = ap some-input input
      where
        some-input : I → Option (NodeEnd R W I O)
        some-input end = Some (Input end)
    own-same (kind.Source (from.File path)) node = ap (λ (items : List (ℕ × R)). as_reader (end_of items node)) readers
    own-same (kind.Sink to.Output) node = ap some-out out
      where
        some-out : O → Option (NodeEnd R W I O)
        some-out end = Some (Output end)
    own-same (kind.Sink (to.File path mode)) node = ap (λ (items : List (ℕ × W)). as_writer (end_of items node)) writers
    own-same (kind.TeeFile path mode) node = ap (λ (items : List (ℕ × W)). as_writer (end_of items node)) writers
    own-same other node = refl

    -- each node has its end in these too
    pub has-same : HasItsEnds graph.nodes ends → HasItsEnds graph.nodes first
    has-same has = λ node cell at needs. ap (λ (it : Option (NodeEnd R W I O)). is_some it) (own-same cell.kind node) ∙ has node cell at needs

    all-same : end_at graph.nodes first ≡ end_at graph.nodes ends
    all-same = fun_ext at
      where
        at : (node : ℕ) → end_at graph.nodes first node ≡ end_at graph.nodes ends node
        at node = ap (λ (tell : Cell NodeKind → Option (NodeEnd R W I O)). option_and_then tell (slice_get graph.nodes node)) (fun_ext (λ (cell : Cell NodeKind). own-same cell.kind node))

    abbrev Ats : Type 0
    Ats = ℕ → Option (NodeEnd R W I O)

    pub run_over_same : (result : Ran R W I O) → HasRun of_reader of_input of_writer of_output reader_faults writer_faults input_faults output_faults graph first result
        → HasRun of_reader of_input of_writer of_output reader_faults writer_faults input_faults output_faults graph ends result
    run_over_same result has = record {
      written = subst (λ (at : Ats). IfDone result (λ status. HasWritten graph.nodes (λ node. left_by of_reader of_input (at node)) (λ node. taken_by of_writer of_output (at node))
          (taken_at of_writer of_output graph.nodes (given_back result)))) all-same has.written;
      output = subst (λ (at : Ats). IfDone result (λ status. (sources : List (List ℕ)) → AreTold sources graph.nodes (λ node. left_by of_reader of_input (at node))
          → of_output (given_back result).out ≡ then_bytes (of_output ends.out) (outcome graph sources).output)) all-same
          (subst (λ (end : O). IfDone result (λ status. (sources : List (List ℕ)) → AreTold sources graph.nodes (left_at of_reader of_input graph.nodes first)
          → of_output (given_back result).out ≡ then_bytes (of_output end) (outcome graph sources).output)) out has.output);
      files = subst (λ (at : Ats). IfDone result (λ status. (sources : List (List ℕ)) → AreTold sources graph.nodes (λ node. left_by of_reader of_input (at node))
          → GrewByFiles (λ node. taken_by of_writer of_output (at node)) (taken_at of_writer of_output graph.nodes (given_back result)) (file_nodes 0 graph.nodes) (outcome graph sources).files)) all-same has.files;
      read = subst (λ (at : Ats). IfDone result (λ status. HasRead graph.nodes (λ node. left_by of_reader of_input (at node)) (left_at of_reader of_input graph.nodes (given_back result)))) all-same has.read;
      status = subst (λ (at : Ats). IfDone result (λ status. (sources : List (List ℕ)) → AreTold sources graph.nodes (λ node. left_by of_reader of_input (at node)) → status ≡ (outcome graph sources).status))
          all-same has.status;
      front = subst (λ (at : Ats). HasWrittenFronts graph.nodes (λ node. left_by of_reader of_input (at node)) (λ node. taken_by of_writer of_output (at node))
          (taken_at of_writer of_output graph.nodes (given_back result))) all-same has.front;
      part = subst (λ (at : Ats). (sources : List (List ℕ)) → AreTold sources graph.nodes (λ node. left_by of_reader of_input (at node))
          → GrewByPrefix (of_output ends.out) (of_output (given_back result).out) (outcome graph sources).output) all-same
          (subst (λ (end : O). (sources : List (List ℕ)) → AreTold sources graph.nodes (left_at of_reader of_input graph.nodes first)
          → GrewByPrefix (of_output end) (of_output (given_back result).out) (outcome graph sources).output) out has.part);
      cause = subst (λ (at : Ats). Blames (λ node. faults_by reader_faults writer_faults input_faults output_faults (at node))
          (faults_at reader_faults writer_faults input_faults output_faults graph.nodes (given_back result)) result) all-same has.cause;
      kept = record {
        readers = has.kept.readers ∙ ap (λ (items : List (ℕ × R)). numbers_of items) readers;
        writers = has.kept.writers ∙ ap (λ (items : List (ℕ × W)). numbers_of items) writers;
        reader = λ place none.
            has.kept.reader place (λ node cell at reads there. none node cell at reads (ap (λ (items : List (ℕ × R)). place_of (numbers_of items) node) (sym readers) ∙ there))
            ∙ ap (λ (items : List (ℕ × R)). end_in items place) readers;
        writer = λ place none.
            has.kept.writer place (λ node cell at writes there. none node cell at writes (ap (λ (items : List (ℕ × W)). place_of (numbers_of items) node) (sym writers) ∙ there))
            ∙ ap (λ (items : List (ℕ × W)). end_in items place) writers;
        input = λ none. has.kept.input none ∙ input;
        out = λ none. has.kept.out none ∙ out;
      };
    }

-- lists with the same numbers and the same ends in their places are the same
same-entries : {End : Type 0} (entries others : List (ℕ × End)) → numbers_of entries ≡ numbers_of others → ((place : ℕ) → end_in entries place ≡ end_in others place) → entries ≡ others
same-entries [] [] numbers ends = refl
same-entries [] (other ∷ others) numbers ends = absurd (cc)
same-entries (entry ∷ entries) [] numbers ends = absurd (cc)
same-entries {End} (entry ∷ entries) (other ∷ others) numbers ends =
    let first : Some entry.1 ≡ Some other.1 = ends 0 in
    let number : entry.0 ≡ other.0 = cc in
    let rest : numbers_of entries ≡ numbers_of others = cc in
    let here : entry ≡ other = λ i. (number i, some_is entry.1 other.1 first i) in
    ap (λ (it : ℕ × End). it ∷ entries) here ∙ ap (λ (it : List (ℕ × End)). other ∷ it) (same-entries entries others rest (λ place. ends (suc place)))

abbrev reader_of : (R W I O : Type 0) → Option R → Option (NodeEnd R W I O)
reader_of R W I O found = option_map Reader found

abbrev writer_of : (R W I O : Type 0) → Option W → Option (NodeEnd R W I O)
writer_of R W I O found = option_map Writer found

from-reader : {R : Type 0} (W I O : Type 0) (found other : Option R) → reader_of R W I O found ≡ reader_of R W I O other → found ≡ other
from-reader W I O None None same = refl
from-reader W I O None (Some other) same = absurd (cc)
from-reader W I O (Some found) None same = absurd (cc)
from-reader W I O (Some found) (Some other) same = cc

from-writer : {W : Type 0} (R I O : Type 0) (found other : Option W) → writer_of R W I O found ≡ writer_of R W I O other → found ≡ other
from-writer R I O None None same = refl
from-writer R I O None (Some other) same = absurd (cc)
from-writer R I O (Some found) None same = absurd (cc)
from-writer R I O (Some found) (Some other) same = cc

-- all ends came back as they went
module _ {R W I O : Type 0} (ends ends' : Ends R W I O) (same : (one : Role) → end_by one ends' ≡ end_by one ends) where
  pub readers-same : numbers_of ends'.readers.items ≡ numbers_of ends.readers.items → ends'.readers.items ≡ ends.readers.items
  readers-same numbers =
      same-entries ends'.readers.items ends.readers.items numbers (λ place. from-reader W I O (end_in ends'.readers.items place) (end_in ends.readers.items place) (same (role.Reader place)))

  pub writers-same : numbers_of ends'.writers.items ≡ numbers_of ends.writers.items → ends'.writers.items ≡ ends.writers.items
  writers-same numbers =
      same-entries ends'.writers.items ends.writers.items numbers (λ place. from-writer R I O (end_in ends'.writers.items place) (end_in ends.writers.items place) (same (role.Writer place)))

  pub input-same : ends'.input ≡ ends.input
  input-same = let here = same role.Input in cc

  pub out-same : ends'.out ≡ ends.out
  out-same = let here = same role.Output in cc
