-- The conditions of validity as tests over the nodes in order, which is how `validate` decides them.
use Rattle.std.specs.Prelude.{ℕ, List, [], ◌∷◌, ◌++◌, Bool, true, false, not, ◌&&◌, ◌==◌, nat_le, nat_lt, if◌then◌else◌, length}
use Rattle.std.specs.List.{list_all, list_any, count_by}
use Rattle.ps_world.specs.Places.{is_null_path}
use Rattle.ut_args.specs.Invocations.{words_of}
use Rattle.fl_graph.specs.Net.{has, count, takes, gives}
use Rattle.fl_graph.specs.declared.graphs.Cell.{Cell}
use Rattle.fl_graph.specs.Kinds.{has_its_ports, is_input, is_output, reads_one_input, has_its_class, runs_what_is_built}
use Rattle.fl_graph.specs.Makers.{made_by, is_mapped}
use Rattle.fl_graph.specs.Paths.{paths_read, paths_written, is_among, are_distinct}
use Rattle.fl_graph.specs.Valid.{names_selector, nodes_named}
use Rattle.fl_graph.specs.declared.kinds.NodeKind.{NodeKind}
use Rattle.fl_graph.specs.declared.kinds.NodeKind.TheVariants as kind
use Rattle.fl_graph.specs.declared.graphs.StatusRule.{StatusRule}

module _ {Kind : Type 0} where
  -- the edge is given once and taken once
  abbrev pub is_single : List (Cell Kind) → ℕ → Bool
  is_single cells edge = (count edge (gives cells) == 1) && (count edge (takes cells) == 1)

  -- so is each of a node's
  abbrev pub has_single_edges : List (Cell Kind) → Cell Kind → Bool
  has_single_edges cells cell = list_all (is_single cells) cell.ins && list_all (is_single cells) cell.outs

  -- the edge's number is below the number of edges
  abbrev pub is_below : List (Cell Kind) → ℕ → Bool
  is_below cells edge = nat_lt edge (length (gives cells))

  abbrev pub gives_below : List (Cell Kind) → Cell Kind → Bool
  gives_below cells cell = list_all (is_below cells) cell.outs

  -- the node takes edges alone that are given before
  abbrev pub takes_given : List (Cell Kind) → Cell Kind → Bool
  takes_given before cell = list_all (λ edge. has edge (gives before)) cell.ins

module _ {Kind : Type 0} (test : List (Cell Kind) → Cell Kind → Bool) where
  -- the test holds of each node and those before it
  abbrev pub each_after : List (Cell Kind) → List (Cell Kind) → Bool
  each_after before [] = true
  each_after before (cell ∷ cells) = test before cell && each_after (before ++ cell ∷ []) cells

-- the last of the nodes which gives the edge maps or aggregates these words; `mapped` is the answer where none does
abbrev pub comes_mapped : List (List ℕ) → ℕ → Bool → List (Cell NodeKind) → Bool
comes_mapped words edge mapped [] = mapped
comes_mapped words edge mapped (cell ∷ cells) =
    comes_mapped words edge (if has edge cell.outs then is_mapped words (made_by cell.kind) else mapped) cells

-- the ins are maps of these words
abbrev pub are_mapped : List (List ℕ) → List (Cell NodeKind) → List ℕ → Bool
are_mapped words before ins = list_all (λ edge. comes_mapped words edge false before) ins

-- a node of this kind joins maps of its own words, if it joins maps
abbrev pub may_join : NodeKind → List (Cell NodeKind) → List ℕ → Bool
may_join (kind.Agg inv) before ins = are_mapped (words_of inv) before ins
may_join (kind.Finish inv) before ins = are_mapped (words_of inv) before ins
may_join other before ins = true

abbrev pub joins_its_maps : List (Cell NodeKind) → Cell NodeKind → Bool
joins_its_maps before cell = may_join cell.kind before cell.ins

-- what a node asks of itself alone
abbrev pub fits_alone : Cell NodeKind → Bool
fits_alone cell = has_its_ports cell && (reads_one_input cell.kind && (has_its_class cell.kind && runs_what_is_built cell.kind))

-- standard input and output have one node each at most
abbrev pub has_one_of_each_end : List (Cell NodeKind) → Bool
has_one_of_each_end cells =
    nat_le (count_by (λ cell. is_input cell.kind) cells) 1 && nat_le (count_by (λ cell. is_output cell.kind) cells) 1

-- the paths are apart
abbrev pub has_paths_apart : List (Cell NodeKind) → Bool
has_paths_apart cells =
    not (list_any is_null_path (paths_read cells)) && (not (list_any is_null_path (paths_written cells))
    && (not (list_any (is_among (paths_read cells)) (paths_written cells)) && are_distinct (paths_written cells)))

abbrev pub has_edges : List (Cell NodeKind) → Bool
has_edges cells =
    list_all (has_single_edges cells) cells && (list_all (gives_below cells) cells && each_after takes_given [] cells)

abbrev pub is_valid : List (Cell NodeKind) → StatusRule → Bool
is_valid cells status =
    has_edges cells && (list_all fits_alone cells && (each_after joins_its_maps [] cells
    && (has_one_of_each_end cells && (has_paths_apart cells && list_all (names_selector cells) (nodes_named status)))))
