-- What comes of a graph that runs over lists of ends (own), whichever way it runs: one record.
use Rattle.std.specs.Prelude.{◌≡◌, ℕ, List, Option}
use Rattle.ps_world.specs.Told.{then_bytes, GrewByPrefix}
use Rattle.fl_graph.specs.declared.graphs.Graph.{Graph}
use Rattle.fl_classes.specs.Flow.{outcome}
use Rattle.fl_core.specs.EndLists.{Blames, GrewByFiles, IfDone, KeepsOthers, faults_at, file_nodes, given_back, left_at, taken_at}
use Rattle.fl_net.specs.Ends.{HasRead, HasWritten, HasWrittenFronts}
use Rattle.fl_net.specs.Plans.{AreTold}
use Rattle.fl_core.specs.declared.end_lists.Ends.{Ends}
use Rattle.fl_core.specs.declared.end_lists.Ran.{Ran}

-- what it says of the ends that tell their texts and counts by these functions
module _ {R W I O : Type 0} (of_reader : R → Option (List ℕ)) (of_input : I → Option (List ℕ)) (of_writer : W → Option (List ℕ)) (of_output : O → Option (List ℕ))
    (reader_faults : R → ℕ) (writer_faults : W → ℕ) (input_faults : I → ℕ) (output_faults : O → ℕ) where
  -- the graph ran over these ends
  pub record HasRun (graph : Graph) (ends : Ends R W I O) (ran : Ran R W I O) : Type 0 where
    -- where it is done, the end of each node that writes has grown by its text, so the output and each file's writer by what the graph leaves;
    -- each source's end is read to its end, and the status is the graph's
    pub written : IfDone ran (λ status. HasWritten graph.nodes (left_at of_reader of_input graph.nodes ends)
        (taken_at of_writer of_output graph.nodes ends) (taken_at of_writer of_output graph.nodes (given_back ran)))
    pub output : IfDone ran (λ status. (sources : List (List ℕ)) → AreTold sources graph.nodes (left_at of_reader of_input graph.nodes ends)
        → of_output (given_back ran).out ≡ then_bytes (of_output ends.out) (outcome graph sources).output)
    pub files : IfDone ran (λ status. (sources : List (List ℕ)) → AreTold sources graph.nodes (left_at of_reader of_input graph.nodes ends)
        → GrewByFiles (taken_at of_writer of_output graph.nodes ends) (taken_at of_writer of_output graph.nodes (given_back ran))
        (file_nodes 0 graph.nodes) (outcome graph sources).files)
    pub read : IfDone ran (λ status. HasRead graph.nodes (left_at of_reader of_input graph.nodes ends) (left_at of_reader of_input graph.nodes (given_back ran)))
    pub status : IfDone ran (λ status. (sources : List (List ℕ)) → AreTold sources graph.nodes (left_at of_reader of_input graph.nodes ends)
        → status ≡ (outcome graph sources).status)
    -- whatever comes, each has grown by a front of it
    pub front : HasWrittenFronts graph.nodes (left_at of_reader of_input graph.nodes ends)
        (taken_at of_writer of_output graph.nodes ends) (taken_at of_writer of_output graph.nodes (given_back ran))
    pub part : (sources : List (List ℕ)) → AreTold sources graph.nodes (left_at of_reader of_input graph.nodes ends)
        → GrewByPrefix (of_output ends.out) (of_output (given_back ran).out) (outcome graph sources).output
    -- a fault is that of the lowest node whose own end failed, and without one no count has changed
    pub cause : Blames (faults_at reader_faults writer_faults input_faults output_faults graph.nodes ends)
        (faults_at reader_faults writer_faults input_faults output_faults graph.nodes (given_back ran)) ran
    -- the ends come back in their order
    pub kept : KeepsOthers graph.nodes ends (given_back ran)
