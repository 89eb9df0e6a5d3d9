-- What comes of a run on threads, from what came of its nodes and of their ends.
use Rattle.std.proofs.Common.{◌≡◌, ℕ, suc, ◌<◌, ◌≤◌, List, [], ◌∷◌, true, false, map, length, slice_get, Option, Some, None, is_some, refl, ap, sym, subst, ◌∙◌, arith}
use Rattle.std.proofs.lemmas.Bool.{true≢false}
use Rattle.std.proofs.lemmas.Option.{slice_get_within}
use Rattle.std.specs.Option.{option_and_then}
use Rattle.ps_world.specs.Counts.{Rose}
use Rattle.ps_world.specs.Told.{then_bytes, GrewByPrefix}
use Rattle.ps_world.specs.declared.error.WorldErr.{WorldErr}
use Rattle.ps_world.proofs.ToldLemmas.{grew_by_nothing, then_bytes-nil}
use Rattle.fl_graph.specs.Net.{gives}
use Rattle.fl_graph.specs.Valid.{Valid}
use Rattle.fl_graph.specs.Runs.{is_clean}
use Rattle.fl_graph.specs.declared.graphs.Cell.{Cell}
use Rattle.fl_graph.specs.declared.graphs.Graph.{Graph}
use Rattle.fl_graph.specs.declared.kinds.NodeKind.{NodeKind}
use Rattle.fl_graph.specs.declared.pieces.Piece.{Piece}
use Rattle.fl_classes.specs.Flow.{flow, only, outcome, status_by}
use Rattle.fl_classes.specs.Kinds.{is_writer}
use Rattle.fl_core.specs.EndLists.{KeepsOthers, NodeEnd, Reader, Writer, Input, Output, end_at, faults_at, faults_by, left_at, left_by, own_end, taken_at, taken_by}
use Rattle.fl_core.specs.GraphRuns.{HasRun}
use Rattle.fl_net.specs.Plans.{AreTold}
use Rattle.fl_core.specs.declared.end_lists.Ends.{Ends}
use Rattle.fl_core.specs.declared.end_lists.Ran.TheVariants as ran
use Rattle.fl_core.proofs.FileLemmas.{files_grew}
use Rattle.fl_core.proofs.OutputLemmas.{output_grows}
use Rattle.fl_net.proofs.OutsideLemmas.{some_at}
use Rattle.fl_nodes.specs.Ends.{EndState}
use Rattle.fl_nodes.specs.Work.{is_fault}
use Rattle.fl_threads.specs.Threads.{EachOf}
use Rattle.fl_runner.specs.Lent.{end_state}
use Rattle.fl_runner.proofs.RunLemmas.{NodeRun, RanAt, each-from, ran_fronts, ran_read, ran_selects, ran_written}

module _ {R W I O : Type 0} (of_reader : R → Option (List ℕ)) (of_input : I → Option (List ℕ)) (of_writer : W → Option (List ℕ)) (of_output : O → Option (List ℕ))
    (reader_faults : R → ℕ) (writer_faults : W → ℕ) (input_faults : I → ℕ) (output_faults : O → ℕ) where
  abbrev pub state_of : Option (NodeEnd R W I O) → EndState
  state_of found = end_state of_reader of_writer of_input of_output reader_faults writer_faults input_faults output_faults found

  left-state : (found : Option (NodeEnd R W I O)) → (state_of found).left ≡ left_by of_reader of_input found
  left-state None = refl
  left-state (Some (Reader it)) = refl
  left-state (Some (Writer it)) = refl
  left-state (Some (Input it)) = refl
  left-state (Some (Output it)) = refl

  taken-state : (found : Option (NodeEnd R W I O)) → (state_of found).taken ≡ taken_by of_writer of_output found
  taken-state None = refl
  taken-state (Some (Reader it)) = refl
  taken-state (Some (Writer it)) = refl
  taken-state (Some (Input it)) = refl
  taken-state (Some (Output it)) = refl

  faults-state : (found : Option (NodeEnd R W I O)) → (state_of found).faults ≡ faults_by reader_faults writer_faults input_faults output_faults found
  faults-state None = refl
  faults-state (Some (Reader it)) = refl
  faults-state (Some (Writer it)) = refl
  faults-state (Some (Input it)) = refl
  faults-state (Some (Output it)) = refl

  module _ (graph : Graph) (valid : Valid graph.nodes graph.status) (ends ends' : Ends R W I O) (keeps : KeepsOthers graph.nodes ends ends')
      (runs : List NodeRun) (over : ℕ → List Piece) (clean : (edge : ℕ) → edge < length (gives graph.nodes) → is_clean (over edge) ≡ true)
      (each : EachOf (RanAt over) graph.nodes runs)
      (was : (node : ℕ) (run : NodeRun) → slice_get runs node ≡ Some run → run.was ≡ state_of (end_at graph.nodes ends node))
      (is : (node : ℕ) (run : NodeRun) → slice_get runs node ≡ Some run → run.is ≡ state_of (end_at graph.nodes ends' node)) where
    abbrev left : Ends R W I O → ℕ → Option (List ℕ)
    left it = left_at of_reader of_input graph.nodes it

    abbrev taken : Ends R W I O → ℕ → Option (List ℕ)
    taken it = taken_at of_writer of_output graph.nodes it

    abbrev faults : Ends R W I O → ℕ → ℕ
    faults it = faults_at reader_faults writer_faults input_faults output_faults graph.nodes it

    -- no node beyond the graph's has an end
    fault-past : (it : Ends R W I O) (node : ℕ) → slice_get runs node ≡ None → faults it node ≡ 0
    fault-past it node none = by_cell (slice_get graph.nodes node) refl
      where
        by_cell : (found : Option (Cell NodeKind)) → slice_get graph.nodes node ≡ found
            → faults_by reader_faults writer_faults input_faults output_faults (option_and_then (λ (cell : Cell NodeKind). own_end cell.kind node it) found) ≡ 0
        by_cell None at_node = refl
        by_cell (Some cell) at_node = let there = each-there node cell at_node in absurd (cc)
          where
            each-there : (node : ℕ) (cell : Cell NodeKind) → slice_get graph.nodes node ≡ Some cell → (run : NodeRun) × (slice_get runs node ≡ Some run)
            each-there node cell at_node = some_at runs node (let within = slice_get_within graph.nodes node cell at_node in let long = as-long graph.nodes runs each in omega (arith, within, long))
              where
                as-long : (cells : List (Cell NodeKind)) (runs : List NodeRun) → EachOf (RanAt over) cells runs → length runs ≡ length cells
                as-long [] [] each = refl
                as-long [] (run ∷ runs) each = absurd each
                as-long (cell ∷ cells) [] each = absurd each
                as-long (cell ∷ cells) (run ∷ runs) each = ap suc (as-long cells runs each.1)

    faults-was : (node : ℕ) (run : NodeRun) → slice_get runs node ≡ Some run → run.was.faults ≡ faults ends node
    faults-was node run found = ap (λ (it : EndState). it.faults) (was node run found) ∙ faults-state (end_at graph.nodes ends node)

    faults-is : (node : ℕ) (run : NodeRun) → slice_get runs node ≡ Some run → run.is.faults ≡ faults ends' node
    faults-is node run found = ap (λ (it : EndState). it.faults) (is node run found) ∙ faults-state (end_at graph.nodes ends' node)

    ran-at : (node : ℕ) (run : NodeRun) → slice_get runs node ≡ Some run → (cell : Cell NodeKind) × ((slice_get graph.nodes node ≡ Some cell) × RanAt over cell run)
    ran-at node run found = each-from (RanAt over) graph.nodes runs each node run found

    calm-at : (node : ℕ) → ((run : NodeRun) → slice_get runs node ≡ Some run → is_fault run.failure ≡ false) → faults ends' node ≡ faults ends node
    calm-at node calm = by_run (slice_get runs node) refl
      where
        by_run : (found : Option NodeRun) → slice_get runs node ≡ found → faults ends' node ≡ faults ends node
        by_run None none = fault-past ends' node none ∙ sym (fault-past ends node none)
        by_run (Some run) found =
            let its = ran-at node run found in
            sym (faults-is node run found) ∙ its.1.1.moved.calm (calm run found) ∙ faults-was node run found

    later-at : (node : ℕ) → faults ends node ≤ faults ends' node
    later-at node = by_run (slice_get runs node) refl
      where
        by_run : (found : Option NodeRun) → slice_get runs node ≡ found → faults ends node ≤ faults ends' node
        by_run None none = let old = fault-past ends node none in let new = fault-past ends' node none in omega (arith, old, new)
        by_run (Some run) found =
            let its = ran-at node run found in
            let later = its.1.1.moved.later in
            let old = faults-was node run found in
            let new = faults-is node run found in
            omega (arith, later, old, new)

    rose-at : (node : ℕ) (run : NodeRun) → slice_get runs node ≡ Some run → is_fault run.failure ≡ true → Rose (faults ends node) (faults ends' node)
    rose-at node run found failed =
        let its = ran-at node run found in
        subst (λ (count : ℕ). Rose count (faults ends' node)) (faults-was node run found) (subst (Rose run.was.faults) (faults-is node run found) (its.1.1.moved.rose failed))

    left-was : (node : ℕ) (run : NodeRun) → slice_get runs node ≡ Some run → run.was.left ≡ left ends node
    left-was node run found = ap (λ (it : EndState). it.left) (was node run found) ∙ left-state (end_at graph.nodes ends node)

    left-is : (node : ℕ) (run : NodeRun) → slice_get runs node ≡ Some run → run.is.left ≡ left ends' node
    left-is node run found = ap (λ (it : EndState). it.left) (is node run found) ∙ left-state (end_at graph.nodes ends' node)

    taken-was : (node : ℕ) (run : NodeRun) → slice_get runs node ≡ Some run → run.was.taken ≡ taken ends node
    taken-was node run found = ap (λ (it : EndState). it.taken) (was node run found) ∙ taken-state (end_at graph.nodes ends node)

    taken-is : (node : ℕ) (run : NodeRun) → slice_get runs node ≡ Some run → run.is.taken ≡ taken ends' node
    taken-is node run found = ap (λ (it : EndState). it.taken) (is node run found) ∙ taken-state (end_at graph.nodes ends' node)

    fronts : (sources : List (List ℕ)) → AreTold sources graph.nodes (left ends) → (node : ℕ) (cell : Cell NodeKind) → slice_get graph.nodes node ≡ Some cell → is_writer cell.kind ≡ true
        → GrewByPrefix (taken ends node) (taken ends' node) (only (map (flow graph.nodes sources) cell.ins))
    fronts = ran_fronts graph.nodes graph.status valid runs over clean each (left ends) (left ends') (taken ends) (taken ends') left-was left-is taken-was taken-is

    part : (sources : List (List ℕ)) → AreTold sources graph.nodes (left ends) → GrewByPrefix (of_output ends.out) (of_output ends'.out) (outcome graph sources).output
    part sources told = output_grows GrewByPrefix (λ told. grew_by_nothing told []) graph valid ends ends' keeps of_writer of_output sources (fronts sources told)

    -- no node has failed
    pub done_runs : (status : ℕ) → ((node : ℕ) (run : NodeRun) → slice_get runs node ≡ Some run → is_some run.failure ≡ false) → status ≡ status_by graph.status (map (λ run. run.selected) runs)
        → HasRun of_reader of_input of_writer of_output reader_faults writer_faults input_faults output_faults graph ends (ran.Done status ends')
    done_runs status unfailed told_status =
        let written = ran_written graph.nodes graph.status valid runs over clean each (left ends) (left ends') (taken ends) (taken ends') left-was left-is taken-was taken-is unfailed in
        record {
          written = written;
          output = λ sources told. output_grows (λ old new text. new ≡ then_bytes old text) (λ told. sym (then_bytes-nil told)) graph valid ends ends' keeps of_writer of_output sources (written sources told);
          files = λ sources told. files_grew graph valid sources (taken ends) (taken ends') (written sources told);
          read = ran_read graph.nodes graph.status valid runs over clean each (left ends) (left ends') (taken ends) (taken ends') left-was left-is taken-was taken-is unfailed;
          status = λ sources told.
              told_status
              ∙ ap (status_by graph.status)
              (sym (ran_selects graph.nodes graph.status valid runs over clean each (left ends) (left ends') (taken ends) (taken ends') left-was left-is taken-was taken-is unfailed sources told));
          front = fronts;
          part = part;
          cause = record {
            fault = λ node is. absurd is;
            lowest = λ node is. absurd is;
            calm = λ never node. calm-at node (λ run found. none-fault run.failure (unfailed node run found));
            later = later-at;
          };
          kept = keeps;
        }
      where
        none-fault : (failure : Option WorldErr) → is_some failure ≡ false → is_fault failure ≡ false
        none-fault None none = refl
        none-fault (Some why) none = absurd (true≢false none)

    -- the end of this node failed, and none of a lower one did
    pub fault_runs : (failed : ℕ) (run : NodeRun) → slice_get runs failed ≡ Some run → is_fault run.failure ≡ true
        → ((node : ℕ) (other : NodeRun) → node < failed → slice_get runs node ≡ Some other → is_fault other.failure ≡ false)
        → HasRun of_reader of_input of_writer of_output reader_faults writer_faults input_faults output_faults graph ends (ran.Fault failed ends')
    fault_runs failed run found fault lower = record {
      written = tt;
      output = tt;
      files = tt;
      read = tt;
      status = tt;
      front = fronts;
      part = part;
      cause = record {
        fault = λ node is. subst (λ (it : ℕ). Rose (faults ends it) (faults ends' it)) is (rose-at failed run found fault);
        lowest = λ node is other below. calm-at other (λ run found. lower other run (omega (arith, below, is)) found);
        calm = λ never. absurd (never failed refl);
        later = later-at;
      };
      kept = keeps;
    }

    -- no end failed
    pub memory_runs : ((node : ℕ) (run : NodeRun) → slice_get runs node ≡ Some run → is_fault run.failure ≡ false)
        → HasRun of_reader of_input of_writer of_output reader_faults writer_faults input_faults output_faults graph ends (ran.Memory ends')
    memory_runs none = record {
      written = tt;
      output = tt;
      files = tt;
      read = tt;
      status = tt;
      front = fronts;
      part = part;
      cause = record {
        fault = λ node is. absurd is;
        lowest = λ node is. absurd is;
        calm = λ never node. calm-at node (λ run found. none node run found);
        later = later-at;
      };
      kept = keeps;
    }
