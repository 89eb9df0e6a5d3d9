-- Valid graphs (own): the conditions on a graph's nodes and on its status rule. The code looks each edge and path up again.
use Rattle.std.specs.Prelude.{◌≡◌, ℕ, ◌<◌, ◌≤◌, List, [], Bool, true, false, length, slice_get}
use Rattle.std.specs.Option.{option_map_or}
use Rattle.std.specs.List.{list_all, count_by}
use Rattle.fl_graph.specs.Net.{has, count, takes, gives}
use Rattle.fl_graph.specs.declared.graphs.Cell.{Cell}
use Rattle.fl_graph.specs.Kinds.{has_its_ports, is_input, is_output, reads_one_input, has_its_class, runs_what_is_built, selects_lines}
use Rattle.fl_graph.specs.Makers.{leads_on, joins_maps}
use Rattle.fl_graph.specs.Paths.{paths_read, paths_written, ArePathsApart}
use Rattle.fl_graph.specs.declared.kinds.NodeKind.{NodeKind}
use Rattle.fl_graph.specs.declared.graphs.StatusRule.{StatusRule}
use Rattle.fl_graph.specs.declared.graphs.StatusRule.TheVariants as status

-- each edge leads from one node to one later node, and they are numbered from 0
pub record HasEdges (cells : List (Cell NodeKind)) : Type 0 where
  -- the numbers are below the number of edges, which is the number of outs
  pub below : (edge : ℕ) → has edge (gives cells) ≡ true → edge < length (gives cells)
  -- no edge is given twice
  pub once : (edge : ℕ) → count edge (gives cells) ≤ 1
  -- an edge is taken as often as it is given
  pub taken : (edge : ℕ) → count edge (takes cells) ≡ count edge (gives cells)
  -- it is taken behind the node that gives it
  pub later : leads_on cells ≡ true

-- standard input is read by one node at most, and standard output written by one at most
pub record HasOneOfEachEnd (cells : List (Cell NodeKind)) : Type 0 where
  pub input : count_by (λ cell. is_input cell.kind) cells ≤ 1
  pub output : count_by (λ cell. is_output cell.kind) cells ≤ 1

-- the nodes that a status rule names
abbrev pub nodes_named : StatusRule → List ℕ
nodes_named (status.Fixed code) = []
nodes_named (status.Selected nodes some none) = nodes

-- the number is that of a node which tells whether it has selected a line
abbrev pub names_selector : List (Cell NodeKind) → ℕ → Bool
names_selector cells node = option_map_or (λ cell. selects_lines cell.kind) (slice_get cells node) false

pub record Valid (cells : List (Cell NodeKind)) (status : StatusRule) : Type 0 where
  pub edges : HasEdges cells
  -- each node has as many ins and outs as its kind has
  pub ports : list_all has_its_ports cells ≡ true
  pub ends : HasOneOfEachEnd cells
  -- each map and each aggregate is of an invocation that reads one input
  pub inputs : list_all (λ cell. reads_one_input cell.kind) cells ≡ true
  -- each map, each aggregate and each finish is of a class that has it
  pub classes : list_all (λ cell. has_its_class cell.kind) cells ≡ true
  -- each map, whole, aggregate and finish is of an invocation that is built
  pub built : list_all (λ cell. runs_what_is_built cell.kind) cells ≡ true
  -- aggregates and finishes join maps of their own words
  pub maps : joins_maps cells ≡ true
  pub paths : ArePathsApart (paths_read cells) (paths_written cells)
  -- the status names maps and wholes of grep
  pub named : list_all (names_selector cells) (nodes_named status) ≡ true
