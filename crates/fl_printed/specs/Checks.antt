-- Which texts are those of graphs that can run, over the files of a tree, and why the others aren't (own). The code goes on with one test behind
-- the other; here each text has its one reading, and the causes stand in their order.
use Rattle.std.specs.Prelude.{◌≡◌, Bool, true, false, Option, Some, None, IfSome, Result, Ok, Err}
use Rattle.std.specs.Option.{option_map}
use Rattle.ps_world.specs.Files.{Files}
use Rattle.ps_world.specs.Paths.{Components, spelled}
use Rattle.ps_world.specs.TreeState.{TreeState}
use Rattle.fl_graph.specs.Valid.{Valid}
use Rattle.fl_graph.specs.declared.graphs.Graph.{Graph}
use Rattle.fl_text.specs.Readings.{Reading, no_graph, no_json, of_graph, other_version}
use Rattle.fl_commands.specs.Graphs.{first_lacking, read_all_patterns}
use Rattle.fl_printed.specs.declared.checks.Unfit.{Unfit}
use Rattle.fl_printed.specs.declared.checks.Unfit.TheVariants as unfit

-- why a graph can't run, by whether its patterns are read, and the file that it lacks
abbrev pub unfit_by : Bool → Option Components → Option Unfit
unfit_by true lacking = option_map (λ path. unfit.NoFile (spelled path)) lacking
unfit_by false lacking = Some unfit.NotGraph

-- the graph, unless there is a cause
abbrev pub unless_unfit : Option Unfit → Graph → Result Graph Unfit
unless_unfit None graph = Ok graph
unless_unfit (Some cause) graph = Err cause

module _ (files : Files) (home : Components) where
  abbrev pub unfit_over : Graph → Option Unfit
  unfit_over graph = unfit_by (read_all_patterns graph.nodes) (first_lacking files home graph.nodes)

  -- what a text comes to that is read so
  abbrev pub checked_over : Reading → Result Graph Unfit
  checked_over (of_graph graph) = unless_unfit (unfit_over graph) graph
  checked_over no_json = Err unfit.NotJson
  checked_over other_version = Err unfit.BadVersion
  checked_over no_graph = Err unfit.NotGraph

-- a graph can run over a tree: it is valid, and no file is lacking where files are told
pub record CanRun (tree : TreeState) (graph : Graph) : Type 0 where
  pub valid : Valid graph.nodes graph.status
  pub there : IfSome tree.held (λ files. first_lacking files tree.home graph.nodes ≡ None)
