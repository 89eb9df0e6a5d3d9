-- What came of a run over a graph's own ends, from what came of it at the nodes.
use Rattle.std.proofs.Common.{◌≡◌, ◌⊎◌, inl, inr, ℕ, zero, suc, ◌+◌, ◌≤◌, List, [], ◌∷◌, Bool, true, false, map, slice_get, Option, Some, None, refl, ap, sym, subst, ◌∙◌, arith}
use Rattle.std.specs.List.{list_any}
use Rattle.std.specs.Option.{option_and_then, option_map_or}
use Rattle.std.proofs.lemmas.Bool.{true≢false}
use Rattle.ps_world.specs.Counts.{Rose}
use Rattle.ps_world.specs.Paths.{Components}
use Rattle.fl_graph.specs.Kinds.{is_input, is_output}
use Rattle.fl_graph.specs.Net.{has}
use Rattle.fl_graph.specs.declared.graphs.Cell.{Cell}
use Rattle.fl_graph.specs.declared.graphs.Graph.{Graph}
use Rattle.fl_graph.specs.declared.kinds.NodeKind.{NodeKind}
use Rattle.fl_graph.specs.declared.kinds.NodeKind.TheVariants as kind
use Rattle.fl_graph.specs.declared.kinds.From.TheVariants as from
use Rattle.fl_graph.specs.declared.kinds.To.TheVariants as to
use Rattle.fl_classes.specs.Flow.{is_source, outcome}
use Rattle.fl_classes.specs.Sources.{source_texts}
use Rattle.fl_core.specs.EndLists.{GrewByFiles, NodeEnd, Input, Output, end_at, faults_by, file_nodes, file_sources, given_back, left_at, left_by, numbers_where, own_end, reads_file, taken_by, writes_file}
use Rattle.fl_net.specs.Ends.{IsReadOff}
use Rattle.fl_engines.specs.Engines.{RunsGraph}
use Rattle.fl_engines.specs.Logs.{Log}
use Rattle.fl_engines.specs.OwnEnds.{EndCounts, HasCause, HasOwnEnds, IfCame, IsTold, RoseAmong, RunsOwn, came_at, came_by, came_of, counts_by, each_of, grown, has_input, has_output, texts_for}
use Rattle.fl_core.specs.declared.end_lists.Ends.{Ends}
use Rattle.fl_core.specs.declared.end_lists.Ran.{Ran}
use Rattle.fl_core.specs.declared.end_lists.Ran.TheVariants as ran
use Rattle.fl_engines.specs.declared.own_ends.Came.TheVariants as came
use Rattle.fl_core.proofs.OutputLemmas.{sought}
use Rattle.fl_engines.proofs.OwnLemmas.{are_told, grew-in-order, map-nodes, node-has, of-readers, of-writers}
use Rattle.fl_net.proofs.PortLemmas.{port_of}
use Rattle.fl_core.proofs.RoleLemmas.{none_found, one_found}

get-mapped : (f : ℕ → ℕ) (numbers : List ℕ) (place number : ℕ) → slice_get numbers place ≡ Some number → slice_get (map f numbers) place ≡ Some (f number)
get-mapped f [] place number at = absurd (cc)
get-mapped f (first ∷ numbers) zero number at = let same : first ≡ number = cc in ap (λ (it : ℕ). Some (f it)) same
get-mapped f (first ∷ numbers) (suc place) number at = get-mapped f numbers place number at

rose-among : (old new : ℕ → ℕ) (numbers : List ℕ) (number : ℕ) → has number numbers ≡ true → Rose (old number) (new number) → RoseAmong (map old numbers) (map new numbers)
rose-among old new numbers number there rose =
    let found = port_of numbers number there in
    record {
      place = found.0;
      before = old number;
      now = new number;
      was = get-mapped old numbers found.0 number found.1;
      is = get-mapped new numbers found.0 number found.1;
      rose = rose;
    }

-- the fault of a node is no end of a run
fault-by : (it : NodeKind) (holds : ℕ → Type 0) → IfCame (came_by it) holds
fault-by (kind.Source from.Input) holds = tt
fault-by (kind.Source (from.File path)) holds = tt
fault-by (kind.Sink to.Output) holds = tt
fault-by (kind.Sink (to.File path mode)) holds = tt
fault-by other holds = tt

fault-at : (cells : List (Cell NodeKind)) (node : ℕ) (holds : ℕ → Type 0) → IfCame (came_at cells node) holds
fault-at cells node holds = by_cell (slice_get cells node)
  where
    by_cell : (found : Option (Cell NodeKind)) → IfCame (option_map_or (λ (cell : Cell NodeKind). came_by cell.kind) found came.Memory) holds
    by_cell None = tt
    by_cell (Some cell) = fault-by cell.kind holds

no-rise : Rose 0 0 → ⊥
no-rise rose = omega (arith, rose)

module _ {R W I O : Type 0} (of_reader : R → Option (List ℕ)) (of_input : I → Option (List ℕ)) (of_writer : W → Option (List ℕ)) (of_output : O → Option (List ℕ))
    (reader_faults : R → ℕ) (writer_faults : W → ℕ) (input_faults : I → ℕ) (output_faults : O → ℕ)
    (graph : Graph) (ends : Ends R W I O) (own : HasOwnEnds graph.nodes ends) (used used' : Option Log) where
  abbrev faults_of : Option (NodeEnd R W I O) → ℕ
  faults_of end = faults_by reader_faults writer_faults input_faults output_faults end

  abbrev faults : Ends R W I O → ℕ → ℕ
  faults of node = faults_of (end_at graph.nodes of node)

  abbrev counts : Ends R W I O → EndCounts
  counts of = counts_by reader_faults writer_faults input_faults output_faults of

  faults-at : (of : Ends R W I O) (node : ℕ) (cell : Cell NodeKind) (it : NodeKind) → slice_get graph.nodes node ≡ Some cell → cell.kind ≡ it → faults of node ≡ faults_of (own_end it node of)
  faults-at of node cell it at same =
      ap (λ (found : Option (Cell NodeKind)). faults_of (option_and_then (λ (cell : Cell NodeKind). own_end cell.kind node of) found)) at
      ∙ ap (λ (it : NodeKind). faults_of (own_end it node of)) same

  input-at : (of : Ends R W I O) (node : ℕ) (cell : Cell NodeKind) → slice_get graph.nodes node ≡ Some cell → is_input cell.kind ≡ true → end_at graph.nodes of node ≡ Some (Input of.input)
  input-at of node cell at is = ap (option_and_then (λ (cell : Cell NodeKind). own_end cell.kind node of)) at ∙ by_kind cell.kind is
    where
      by_kind : (it : NodeKind) → is_input it ≡ true → own_end it node of ≡ Some (Input of.input)
      by_kind (kind.Source from.Input) is = refl
      by_kind other is = absurd (true≢false (sym is))

  output-at : (of : Ends R W I O) (node : ℕ) (cell : Cell NodeKind) → slice_get graph.nodes node ≡ Some cell → is_output cell.kind ≡ true → end_at graph.nodes of node ≡ Some (Output of.out)
  output-at of node cell at is = ap (option_and_then (λ (cell : Cell NodeKind). own_end cell.kind node of)) at ∙ by_kind cell.kind is
    where
      by_kind : (it : NodeKind) → is_output it ≡ true → own_end it node of ≡ Some (Output of.out)
      by_kind (kind.Sink to.Output) is = refl
      by_kind other is = absurd (true≢false (sym is))

  reads-input : (it : NodeKind) → is_input it ≡ true → is_source it ≡ true
  reads-input (kind.Source from.Input) is = refl
  reads-input other is = absurd (true≢false (sym is))

  module _ (result : Ran R W I O) (runs : RunsGraph of_reader of_input of_writer of_output reader_faults writer_faults input_faults output_faults graph ends used used' result) where
    abbrev back : Ends R W I O
    back = given_back result

    own-back : HasOwnEnds graph.nodes back
    own-back = record { readers = runs.run.kept.readers ∙ own.readers; writers = runs.run.kept.writers ∙ own.writers }

    none-is : (test : NodeKind → Bool) → list_any (λ (cell : Cell NodeKind). test cell.kind) graph.nodes ≡ false
        → (node : ℕ) (cell : Cell NodeKind) → slice_get graph.nodes node ≡ Some cell → test cell.kind ≡ false
    none-is test none node cell at = by_test (test cell.kind) refl
      where
        by_test : (passes : Bool) → test cell.kind ≡ passes → test cell.kind ≡ false
        by_test true is = absurd (true≢false (sym (one_found (λ (cell : Cell NodeKind). test cell.kind) graph.nodes node cell at is) ∙ none))
        by_test false is = is

    input-kept : has_input graph.nodes ≡ false → back.input ≡ ends.input
    input-kept none = runs.run.kept.input (none-is is_input none)

    out-kept : has_output graph.nodes ≡ false → back.out ≡ ends.out
    out-kept none = runs.run.kept.out (none-is is_output none)

    -- what is told of the ends that the nodes of such a kind have, or none has one
    by-nodes : {Says : Type 0} (test : NodeKind → Bool)
        → ((node : ℕ) (cell : Cell NodeKind) → slice_get graph.nodes node ≡ Some cell → test cell.kind ≡ true → Says)
        → (list_any (λ (cell : Cell NodeKind). test cell.kind) graph.nodes ≡ false → Says) → Says
    by-nodes {Says} test some none = by_search (sought (λ (cell : Cell NodeKind). test cell.kind) graph.nodes)
      where
        by_search : ((place : ℕ) × ((item : Cell NodeKind) × ((slice_get graph.nodes place ≡ Some item) × (test item.kind ≡ true))))
            ⊎ ((place : ℕ) (item : Cell NodeKind) → slice_get graph.nodes place ≡ Some item → test item.kind ≡ false) → Says
        by_search (inl found) = some found.0 found.1.0 found.1.1.0 found.1.1.1
        by_search (inr all) = none (none_found (λ (cell : Cell NodeKind). test cell.kind) graph.nodes (λ place item at is. true≢false (sym is ∙ all place item at)))

    -- an end has its count still where its node has
    abbrev Calm : (NodeKind → Bool) → Type 0
    Calm test = (node : ℕ) (cell : Cell NodeKind) → slice_get graph.nodes node ≡ Some cell → test cell.kind ≡ true → faults back node ≡ faults ends node

    input-calm : Calm is_input → input_faults back.input ≡ input_faults ends.input
    input-calm calm = by-nodes is_input
        (λ node cell at is. sym (ap faults_of (input-at back node cell at is)) ∙ calm node cell at is ∙ ap faults_of (input-at ends node cell at is))
        (λ none. ap input_faults (input-kept none))

    output-calm : Calm is_output → output_faults back.out ≡ output_faults ends.out
    output-calm calm = by-nodes is_output
        (λ node cell at is. sym (ap faults_of (output-at back node cell at is)) ∙ calm node cell at is ∙ ap faults_of (output-at ends node cell at is))
        (λ none. ap output_faults (out-kept none))

    -- no count falls at the input and the output
    input-later : input_faults ends.input ≤ input_faults back.input
    input-later = by-nodes is_input
        (λ node cell at is. rw (← ap faults_of (input-at ends node cell at is), ← ap faults_of (input-at back node cell at is)) (runs.run.cause.later node))
        (λ none. let same = ap input_faults (input-kept none) in omega (arith, same))

    output-later : output_faults ends.out ≤ output_faults back.out
    output-later = by-nodes is_output
        (λ node cell at is. rw (← ap faults_of (output-at ends node cell at is), ← ap faults_of (output-at back node cell at is)) (runs.run.cause.later node))
        (λ none. let same = ap output_faults (out-kept none) in omega (arith, same))

    readers-calm : Calm reads_file → each_of reader_faults back.readers.items ≡ each_of reader_faults ends.readers.items
    readers-calm calm = sym (of-readers graph.nodes back own-back faults_of) ∙ map-nodes reads_file (faults back) (faults ends) graph.nodes calm ∙ of-readers graph.nodes ends own faults_of

    writers-calm : Calm writes_file → each_of writer_faults back.writers.items ≡ each_of writer_faults ends.writers.items
    writers-calm calm = sym (of-writers graph.nodes back own-back faults_of) ∙ map-nodes writes_file (faults back) (faults ends) graph.nodes calm ∙ of-writers graph.nodes ends own faults_of

    all-calm : ((node : ℕ) → faults back node ≡ faults ends node) → counts back ≡ counts ends
    all-calm calm = λ i. record {
      input = input-calm (λ node cell at is. calm node) i;
      output = output-calm (λ node cell at is. calm node) i;
      readers = readers-calm (λ node cell at is. calm node) i;
      writers = writers-calm (λ node cell at is. calm node) i;
    }

    -- where the end of a node failed
    module _ (failed : ℕ) (rose : Rose (faults ends failed) (faults back failed)) where
      -- it rose at the end that a node of this kind has
      rose-at : (cell : Cell NodeKind) (it : NodeKind) → slice_get graph.nodes failed ≡ Some cell → cell.kind ≡ it → Rose (faults_of (own_end it failed ends)) (faults_of (own_end it failed back))
      rose-at cell it at same =
          subst (λ (count : ℕ). Rose count (faults_of (own_end it failed back))) (faults-at ends failed cell it at same)
          (subst (Rose (faults ends failed)) (faults-at back failed cell it at same) rose)

      -- the node is among those of a kind that it is of
      there : (cell : Cell NodeKind) → slice_get graph.nodes failed ≡ Some cell → (test : NodeKind → Bool) → test cell.kind ≡ true → has failed (numbers_where test 0 graph.nodes) ≡ true
      there cell at test is = let here : 0 + failed ≡ failed = omega arith in subst (λ (number : ℕ). has number (numbers_where test 0 graph.nodes) ≡ true) here (node-has test 0 graph.nodes failed cell at is)

      -- or among the writers, where the node writes a file
      writer-cause : (cell : Cell NodeKind) → slice_get graph.nodes failed ≡ Some cell → writes_file cell.kind ≡ true → HasCause came.Writer (counts ends) (counts back)
      writer-cause cell at writes =
          subst (λ (old : List ℕ). RoseAmong old (each_of writer_faults back.writers.items)) (of-writers graph.nodes ends own faults_of)
          (subst (RoseAmong (map (faults ends) (file_nodes 0 graph.nodes))) (of-writers graph.nodes back own-back faults_of)
          (rose-among (faults ends) (faults back) (file_nodes 0 graph.nodes) failed (there cell at writes_file writes) rose))

      by-kind : (cell : Cell NodeKind) (it : NodeKind) → slice_get graph.nodes failed ≡ Some cell → cell.kind ≡ it → HasCause (came_by it) (counts ends) (counts back)
      by-kind cell (kind.Source from.Input) at same = rose-at cell (kind.Source from.Input) at same
      by-kind cell (kind.Sink to.Output) at same = rose-at cell (kind.Sink to.Output) at same
      by-kind cell (kind.Source (from.File path)) at same =
          subst (λ (old : List ℕ). RoseAmong old (each_of reader_faults back.readers.items)) (of-readers graph.nodes ends own faults_of)
          (subst (RoseAmong (map (faults ends) (file_sources 0 graph.nodes))) (of-readers graph.nodes back own-back faults_of)
          (rose-among (faults ends) (faults back) (file_sources 0 graph.nodes) failed (there cell at reads_file (ap reads_file same)) rose))
      by-kind cell (kind.Sink (to.File path mode)) at same = writer-cause cell at (ap writes_file same)
      by-kind cell (kind.TeeFile path mode) at same = writer-cause cell at (ap writes_file same)
      by-kind cell other at same = absurd (no-rise (rose-at cell other at same))

      failed-cause : HasCause (came_at graph.nodes failed) (counts ends) (counts back)
      failed-cause = by_cell (slice_get graph.nodes failed) refl
        where
          none-at : (of : Ends R W I O) → slice_get graph.nodes failed ≡ None → faults of failed ≡ 0
          none-at of at = ap (λ (found : Option (Cell NodeKind)). faults_of (option_and_then (λ (cell : Cell NodeKind). own_end cell.kind failed of) found)) at

          by_cell : (found : Option (Cell NodeKind)) → slice_get graph.nodes failed ≡ found
              → HasCause (option_map_or (λ (cell : Cell NodeKind). came_by cell.kind) found came.Memory) (counts ends) (counts back)
          by_cell None at = absurd (no-rise (subst (λ (count : ℕ). Rose count 0) (none-at ends at) (subst (Rose (faults ends failed)) (none-at back at) rose)))
          by_cell (Some cell) at = by-kind cell cell.kind at refl

    -- the writers have grown by what the graph leaves in files
    writers-grew : (input : List ℕ) (files : Components → List ℕ) → IsTold of_reader of_input graph.nodes ends input files
        → GrewByFiles (λ node. taken_by of_writer of_output (end_at graph.nodes ends node)) (λ node. taken_by of_writer of_output (end_at graph.nodes back node)) (file_nodes 0 graph.nodes) (outcome graph (source_texts graph.nodes input files)).files
        → each_of of_writer back.writers.items ≡ grown (each_of of_writer ends.writers.items) (texts_for (outcome graph (source_texts graph.nodes input files)).files)
    writers-grew input files told grew =
        let left = (outcome graph (source_texts graph.nodes input files)).files in
        sym (of-writers graph.nodes back own-back (taken_by of_writer of_output))
        ∙ grew-in-order (λ node. taken_by of_writer of_output (end_at graph.nodes ends node)) (λ node. taken_by of_writer of_output (end_at graph.nodes back node)) (file_nodes 0 graph.nodes) left grew
        ∙ ap (λ (old : List (Option (List ℕ))). grown old (texts_for left)) (of-writers graph.nodes ends own (taken_by of_writer of_output))

    -- the input's node has read it to its end
    input-read : ((node : ℕ) (cell : Cell NodeKind) → slice_get graph.nodes node ≡ Some cell → is_source cell.kind ≡ true → IsReadOff (left_at of_reader of_input graph.nodes ends node) (left_at of_reader of_input graph.nodes back node))
        → has_input graph.nodes ≡ true → IsReadOff (of_input ends.input) (of_input back.input)
    input-read read has = by-nodes is_input
        (λ node cell at is. subst (λ (end : Option (NodeEnd R W I O)). IsReadOff (of_input ends.input) (left_by of_reader of_input end)) (input-at back node cell at is)
        (subst (λ (end : Option (NodeEnd R W I O)). IsReadOff (left_by of_reader of_input end) (left_at of_reader of_input graph.nodes back node)) (input-at ends node cell at is) (read node cell at (reads-input cell.kind is))))
        (λ none. absurd (true≢false (sym has ∙ none)))

  pub own_runs : (result : Ran R W I O) → RunsGraph of_reader of_input of_writer of_output reader_faults writer_faults input_faults output_faults graph ends used used' result
      → RunsOwn of_reader of_input of_writer of_output reader_faults writer_faults input_faults output_faults graph ends used used' (came_of graph.nodes result) (given_back result)
  own_runs (ran.Done status back) runs = record {
    leaves = λ input files told.
        let sources = source_texts graph.nodes input files in
        let are = are_told graph.nodes ends own of_reader of_input input files told in
        record {
          output = runs.run.output sources are;
          writers = writers-grew (ran.Done status back) runs input files told (runs.run.files sources are);
          status = runs.run.status sources are;
        };
    part = λ input files told. runs.run.part (source_texts graph.nodes input files) (are_told graph.nodes ends own of_reader of_input input files told);
    read = input-read (ran.Done status back) runs runs.run.read;
    input = input-kept (ran.Done status back) runs;
    out = out-kept (ran.Done status back) runs;
    readers = runs.run.kept.readers;
    writers = runs.run.kept.writers;
    cause = all-calm (ran.Done status back) runs (λ node. runs.run.cause.calm (λ other bad. bad) node);
    later_input = input-later (ran.Done status back) runs;
    later_output = output-later (ran.Done status back) runs;
    used_whole = runs.used_whole;
    used_or_not = runs.used_or_not;
  }
  own_runs (ran.Fault node back) runs = record {
    leaves = λ input files told. fault-at graph.nodes node _;
    part = λ input files told. runs.run.part (source_texts graph.nodes input files) (are_told graph.nodes ends own of_reader of_input input files told);
    read = λ has. fault-at graph.nodes node _;
    input = input-kept (ran.Fault node back) runs;
    out = out-kept (ran.Fault node back) runs;
    readers = runs.run.kept.readers;
    writers = runs.run.kept.writers;
    cause = failed-cause (ran.Fault node back) runs node (runs.run.cause.fault node refl);
    later_input = input-later (ran.Fault node back) runs;
    later_output = output-later (ran.Fault node back) runs;
    used_whole = fault-at graph.nodes node _;
    used_or_not = runs.used_or_not;
  }
  own_runs (ran.Memory back) runs = record {
    leaves = λ input files told. tt;
    part = λ input files told. runs.run.part (source_texts graph.nodes input files) (are_told graph.nodes ends own of_reader of_input input files told);
    read = λ has. tt;
    input = input-kept (ran.Memory back) runs;
    out = out-kept (ran.Memory back) runs;
    readers = runs.run.kept.readers;
    writers = runs.run.kept.writers;
    cause = all-calm (ran.Memory back) runs (λ node. runs.run.cause.calm (λ other bad. bad) node);
    later_input = input-later (ran.Memory back) runs;
    later_output = output-later (ran.Memory back) runs;
    used_whole = tt;
    used_or_not = runs.used_or_not;
  }
