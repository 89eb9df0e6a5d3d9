-- How the graph of a segment is made: node by node, each edge numbered as it is given.
use Rattle.std.specs.Prelude.{ℕ, zero, suc, ◌+◌, List, [], ◌∷◌}
use Rattle.std.specs.List.{range_with_len}
use Rattle.fl_graph.specs.declared.graphs.Cell.{Cell}
use Rattle.fl_graph.specs.declared.kinds.NodeKind.{NodeKind}
use Rattle.fl_graph.specs.declared.kinds.NodeKind.TheVariants as kind

-- a node that is to come: what it does, the edges that lead to it, and how many edges it gives
pub record Step : Type 0 where
  pub kind : NodeKind
  pub ins : List ℕ
  pub outs : ℕ
  pub stage : ℕ

-- it gives an edge; the others end one
abbrev pub gives_of : NodeKind → ℕ
gives_of kind.Drain = 0
gives_of (kind.Sink sink) = 0
gives_of other = 1

abbrev pub step : NodeKind → List ℕ → ℕ → Step
step kind ins stage = record { kind = kind; ins = ins; outs = gives_of kind; stage = stage }

-- a split gives an edge for each part
abbrev pub split_step : List ℕ → ℕ → ℕ → Step
split_step ins parts stage = record { kind = kind.Split; ins = ins; outs = parts; stage = stage }

abbrev pub cell_of : Step → List ℕ → Cell NodeKind
cell_of it outs = record { kind = it.kind; ins = it.ins; outs = outs; stage = it.stage }

-- the edges that it gives, where the next one has this number, and the number behind them
abbrev pub outs_of : ℕ → ℕ → List ℕ
outs_of outs next = range_with_len next outs

abbrev pub next_of : ℕ → ℕ → ℕ
next_of zero next = next
next_of (suc outs) next = next_of outs (next + 1)

-- the nodes
abbrev pub drawn : ℕ → List Step → List (Cell NodeKind)
drawn next [] = []
drawn next (it ∷ steps) = cell_of it (outs_of it.outs next) ∷ drawn (next_of it.outs next) steps

-- the number behind all
abbrev pub behind : ℕ → List Step → ℕ
behind next [] = next
behind next (it ∷ steps) = behind (next_of it.outs next) steps
