-- Which utilities a graph runs (own): the words of its maps and wholes that have an in, in the order of the nodes. Those of cat are left out,
-- since a graph may join texts without it.
use Rattle.std.specs.Prelude.{ℕ, List, [], ◌∷◌, Bool, true, false, ◌||◌, ◌==◌, length, if◌then◌else◌}
use Rattle.std.specs.List.{flat_map}
use Rattle.ut_args.specs.Invocations.{words_of}
use Rattle.ut_args.specs.declared.invocations.Inv.{Inv}
use Rattle.ut_args.specs.declared.invocations.Inv.TheVariants as inv
use Rattle.fl_graph.specs.declared.graphs.Cell.{Cell}
use Rattle.fl_graph.specs.declared.kinds.NodeKind.{NodeKind}
use Rattle.fl_graph.specs.declared.kinds.NodeKind.TheVariants as kind

-- the command is cat
abbrev pub is_cat : Inv → Bool
is_cat (inv.Cat cat) = true
is_cat other = false

-- the words of an invocation that so many ins lead to
abbrev pub words_with : Inv → ℕ → List (List (List ℕ))
words_with inv ins = if is_cat inv || (ins == 0) then [] else words_of inv ∷ []

-- those of a node of this kind
abbrev pub words_by : NodeKind → ℕ → List (List (List ℕ))
words_by (kind.Map inv) ins = words_with inv ins
words_by (kind.Whole inv) ins = words_with inv ins
words_by other ins = []

-- those of all nodes
abbrev pub words_used : List (Cell NodeKind) → List (List (List ℕ))
words_used cells = flat_map (λ cell. words_by cell.kind (length cell.ins)) cells
