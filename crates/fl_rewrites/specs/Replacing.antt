-- Nodes in the place of one (own), which the status names in its place, and a graph whose edges are numbered anew.
use Rattle.std.specs.Prelude.{ℕ, ◌+◌, ◌-◌, List, [], ◌∷◌, ◌==◌, nat_lt, if◌then◌else◌, length}
use Rattle.std.specs.List.{flat_map, range_with_len}
use Rattle.fl_graph.specs.declared.graphs.Cell.{Cell}
use Rattle.fl_graph.specs.declared.graphs.Graph.{Graph}
use Rattle.fl_graph.specs.declared.graphs.StatusRule.{StatusRule}
use Rattle.fl_graph.specs.declared.graphs.StatusRule.TheVariants as status
use Rattle.fl_graph.specs.declared.kinds.NodeKind.{NodeKind}
use Rattle.fl_rewrites.specs.Numbering.{numbered}
use Rattle.fl_rewrites.specs.Places.{replaced}

-- the numbers that stand for a node's where so many nodes have come in the place of one: the first of these, as many as are to be named, stand
-- for the one, and those behind it have moved
abbrev pub stand_for : ℕ → ℕ → ℕ → ℕ → List ℕ
stand_for place size named node =
    if nat_lt node place then node ∷ [] else if node == place then range_with_len place named else (node + size - 1) ∷ []

abbrev pub renamed_status : ℕ → ℕ → ℕ → StatusRule → StatusRule
renamed_status place size named (status.Fixed code) = status.Fixed code
renamed_status place size named (status.Selected nodes some none) = status.Selected (flat_map (stand_for place size named) nodes) some none

-- the graph with these nodes in the place of the one with this number
abbrev pub with_nodes : ℕ → List (Cell NodeKind) → ℕ → Graph → Graph
with_nodes place cells named graph =
    record { nodes = replaced (λ cell. cells) place graph.nodes; status = renamed_status place (length cells) named graph.status }

-- the graph with its edges numbered in the order in which they are given
abbrev pub in_order : Graph → Graph
in_order graph = record { nodes = numbered graph.nodes; status = graph.status }

-- the graph in which these nodes, which the status doesn't name, are in the place of the one with this number
abbrev pub exchanged : ℕ → Graph → List (Cell NodeKind) → Graph
exchanged node graph cells = in_order (with_nodes node cells 0 graph)
