-- What comes of a graph that an engine runs (own): one record, whichever engine it is.
use Rattle.std.specs.Prelude.{◌≡◌, ◌⊎◌, ℕ, List, Option}
use Rattle.std.specs.Option.{option_map}
use Rattle.fl_graph.specs.declared.graphs.Graph.{Graph}
use Rattle.fl_classes.specs.Used.{words_used}
use Rattle.fl_core.specs.EndLists.{IfDone}
use Rattle.fl_core.specs.GraphRuns.{HasRun}
use Rattle.fl_core.specs.declared.end_lists.Ends.{Ends}
use Rattle.fl_core.specs.declared.end_lists.Ran.{Ran}
use Rattle.fl_engines.specs.Logs.{Log, with_words}

-- what an engine tells, where it does, with the words of this graph behind those that it has run
abbrev pub then_used : Option Log → Graph → Option Log
then_used told graph = option_map (with_words (words_used graph.nodes)) told

-- what it says of the ends that tell their texts and counts by these functions
module _ {R W I O : Type 0} (of_reader : R → Option (List ℕ)) (of_input : I → Option (List ℕ)) (of_writer : W → Option (List ℕ)) (of_output : O → Option (List ℕ))
    (reader_faults : R → ℕ) (writer_faults : W → ℕ) (input_faults : I → ℕ) (output_faults : O → ℕ) where
  -- the graph ran over these ends, on an engine that tells it has run these utilities before and those behind it
  pub record RunsGraph (graph : Graph) (ends : Ends R W I O) (used used' : Option Log) (ran : Ran R W I O) : Type 0 where
    pub run : HasRun of_reader of_input of_writer of_output reader_faults writer_faults input_faults output_faults graph ends ran
    -- where it is done the engine has run the graph's utilities, and else those or none
    pub used_whole : IfDone ran (λ status. used' ≡ then_used used graph)
    pub used_or_not : (used' ≡ used) ⊎ (used' ≡ then_used used graph)
