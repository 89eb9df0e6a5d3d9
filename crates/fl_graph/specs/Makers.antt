-- Which node has made an edge (own): whether an earlier one gives it, and of which words' map it is.
use Rattle.std.specs.Prelude.{ℕ, List, [], ◌∷◌, Bool, true, false, nat_eq, replicate}
use Rattle.std.specs.List.{list_all}
use Rattle.std.specs.Cmp.Lexicographic.{pointwise}
use Rattle.ut_args.specs.Invocations.{words_of}
use Rattle.fl_graph.specs.Net.{run}
use Rattle.fl_graph.specs.declared.graphs.Cell.{Cell}
use Rattle.fl_graph.specs.declared.kinds.NodeKind.{NodeKind}
use Rattle.fl_graph.specs.declared.kinds.NodeKind.TheVariants as kind

-- an edge that no earlier node gives, one that is given, and one that a map or an aggregate of these words gives
pub data Made : Type 0 where
  Absent : Made
  Given : Made
  Mapped : List (List ℕ) → Made

-- what the outs of a node are
abbrev pub made_by : NodeKind → Made
made_by (kind.Map inv) = Mapped (words_of inv)
made_by (kind.Agg inv) = Mapped (words_of inv)
made_by other = Given

abbrev pub makes : NodeKind → ℕ → List Made → List Made
makes node outs made = replicate outs (made_by node)

-- no edge is given yet
abbrev pub absent : ℕ → Made
absent edge = Absent

-- these words are those
abbrev pub same_words : List (List ℕ) → List (List ℕ) → Bool
same_words words others = pointwise (pointwise nat_eq) words others

abbrev pub is_given : Made → Bool
is_given Absent = false
is_given Given = true
is_given (Mapped words) = true

abbrev pub is_mapped : List (List ℕ) → Made → Bool
is_mapped words Absent = false
is_mapped words Given = false
is_mapped words (Mapped others) = same_words words others

-- a node tells whether all its ins are given before it
abbrev pub tells_order : NodeKind → List Made → List Bool
tells_order node made = list_all is_given made ∷ []

-- an aggregate and a finish tell whether all their ins are of the maps of their words
abbrev pub tells_maps : NodeKind → List Made → List Bool
tells_maps (kind.Agg inv) made = list_all (is_mapped (words_of inv)) made ∷ []
tells_maps (kind.Finish inv) made = list_all (is_mapped (words_of inv)) made ∷ []
tells_maps other made = true ∷ []

-- all of them hold
abbrev pub all_hold : List Bool → Bool
all_hold told = list_all (λ holds. holds) told

-- each edge is taken by a node that stands behind the one that gives it
abbrev pub leads_on : List (Cell NodeKind) → Bool
leads_on cells = all_hold (run makes tells_order cells absent)

-- the ins of each aggregate and of each finish come from maps or aggregates of the same words
abbrev pub joins_maps : List (Cell NodeKind) → Bool
joins_maps cells = all_hold (run makes tells_maps cells absent)
