-- A graph that is run over the readers and writers of its files.
use Rattle.std.specs.Prelude.{◌≡◌, ℕ, List, false, length, map, Option, Some, Result, Ok, Err}
use Rattle.ps_world.specs.Files.{Files, bytes_at}
use Rattle.ps_world.specs.Paths.{Components}
use Rattle.ps_world.specs.TreeState.{AreOut, TreeState}
use Rattle.ps_world.specs.declared.error.WorldErr.{WorldErr}
use Rattle.ps_world.specs.declared.error.WorldErr.TheVariants as error
use Rattle.fl_graph.specs.declared.graphs.Graph.{Graph}
use Rattle.fl_engines.specs.Logs.{Log}
use Rattle.fl_engines.specs.OwnEnds.{RunsOwn, each_of}
use Rattle.fl_core.specs.declared.end_lists.Ends.{Ends}
use Rattle.fl_engines.specs.declared.own_ends.Came.{Came}
use Rattle.fl_engines.specs.declared.own_ends.Came.TheVariants as came
use Rattle.fl_commands.specs.Inner.Writing.{Begins}
use Rattle.fl_commands.specs.Readers.{has_count}
use Rattle.fl_commands.specs.declared.runs.Ended.{Ended}
use Rattle.fl_commands.specs.declared.runs.Ended.TheVariants as ended

-- how a run of utilities came out where the tree answers so
abbrev pub ended_of : WorldErr → Ended
ended_of error.Failed = ended.Tree
ended_of error.Memory = ended.Memory

abbrev pub done_by : ℕ → Result Unit WorldErr → Ended
done_by status (Ok done) = ended.Done status
done_by status (Err error) = ended_of error

-- by how that of its graph did, and how its writers went back
abbrev pub ended_by : Came → Result Unit WorldErr → Ended
ended_by (came.Done status) back = done_by status back
ended_by came.Input back = ended.Input
ended_by came.Output back = ended.Output
ended_by came.Reader back = ended.Tree
ended_by came.Writer back = ended.Tree
ended_by came.Memory back = ended.Memory

-- these readers of the files at these paths are out, and have failed never
pub record Opens {R : Type 0} (of_reader : R → Option (List ℕ)) (reader_faults : R → ℕ) (paths : List Components) (tree tree' : TreeState) (readers : List (ℕ × R)) : Type 0 where
  pub texts : (files : Files) → tree.held ≡ Some files → each_of of_reader readers ≡ map (λ path. Some (bytes_at files path)) paths
  pub count : length readers ≡ length paths
  pub fresh : has_count (each_of reader_faults readers) ≡ false
  pub out : AreOut (length readers) tree tree'

-- they are, and the writers of the files that are written, behind what these hold
pub record Lends {R W : Type 0} (of_reader : R → Option (List ℕ)) (reader_faults : R → ℕ) (of_writer : W → Option (List ℕ)) (writer_faults : W → ℕ)
    (read written : List Components) (old new : TreeState) (readers : List (ℕ × R)) (writers : List (ℕ × W)) : Type 0 where
  pub mid : TreeState
  pub opens : Opens of_reader reader_faults read old mid readers
  pub held : mid.held ≡ old.held
  pub begins : Begins of_writer writer_faults written mid new writers

-- the graph ran over them, under some numbers
pub record RunsOver {R W I O : Type 0} (of_reader : R → Option (List ℕ)) (of_input : I → Option (List ℕ)) (of_writer : W → Option (List ℕ)) (of_output : O → Option (List ℕ))
    (reader_faults : R → ℕ) (writer_faults : W → ℕ) (input_faults : I → ℕ) (output_faults : O → ℕ)
    (graph : Graph) (readers : List (ℕ × R)) (writers : List (ℕ × W)) (input : I) (out : O) (used used' : Option Log) (came : Came) (back : Ends R W I O) : Type 0 where
  pub numbered : Ends R W I O
  pub readers_are : map (λ entry. entry.1) numbered.readers.items ≡ map (λ entry. entry.1) readers
  pub writers_are : map (λ entry. entry.1) numbered.writers.items ≡ map (λ entry. entry.1) writers
  pub input_is : numbered.input ≡ input
  pub out_is : numbered.out ≡ out
  pub runs : RunsOwn of_reader of_input of_writer of_output reader_faults writer_faults input_faults output_faults graph numbered used used' came back
