-- Which texts of its sources suit a graph (own): those at which what is joined is cut at ends of lines. A group is a Cat over files, which
-- doesn't close; the groups under one Cat, directly or through maps, are a cut list. So are, for each aggregate, the texts whose maps it
-- gathers, directly or through other aggregates. The value of an edge knows where its text comes from.
use Rattle.std.specs.Prelude.{◌≡◌, ℕ, List, [], ◌∷◌, Bool, true, false, if◌then◌else◌, map}
use Rattle.std.specs.List.{concat, flat_map, list_all}
use Rattle.ps_lines.specs.Lines.{is_cutlist}
use Rattle.fl_graph.specs.Net.{run}
use Rattle.fl_graph.specs.Makers.{all_hold}
use Rattle.fl_graph.specs.declared.graphs.Cell.{Cell}
use Rattle.fl_graph.specs.declared.kinds.NodeKind.{NodeKind}
use Rattle.fl_graph.specs.declared.kinds.NodeKind.TheVariants as kind
use Rattle.fl_graph.specs.declared.kinds.From.TheVariants as from
use Rattle.fl_classes.specs.Flow.{Placed, placed, texts_given}

-- an edge's text; whether a file is read there; the text of the group that it comes from through maps, if there is one; the texts whose
-- maps it gathers
pub record Value : Type 0 where
  pub text : List ℕ
  pub file : Bool
  pub group : List (List ℕ)
  pub maps : List (List ℕ)

abbrev pub is_file : NodeKind → Bool
is_file (kind.Source (from.File path)) = true
is_file other = false

-- the group of a Cat over these
abbrev pub group_of : Bool → List Value → List (List ℕ)
group_of close ins = if close then [] else if list_all (λ value. value.file) ins then concat (map (λ value. value.text) ins) ∷ [] else []

-- the group that a node's outs come from
abbrev pub groups_given : NodeKind → List Value → List (List ℕ)
groups_given (kind.Map inv) ins = flat_map (λ value. value.group) ins
groups_given (kind.Cat close) ins = group_of close ins
groups_given other ins = []

-- the texts whose maps they gather
abbrev pub maps_given : NodeKind → List Value → List (List ℕ)
maps_given (kind.Map inv) ins = map (λ value. value.text) ins
maps_given (kind.Agg inv) ins = flat_map (λ value. value.maps) ins
maps_given other ins = []

abbrev pub with_origin : NodeKind → List Value → List ℕ → Value
with_origin node ins text = record { text = text; file = is_file node; group = groups_given node ins; maps = maps_given node ins }

-- the values of a node's outs, from those of its ins
abbrev pub values_given : List (List ℕ) → Placed → ℕ → List Value → List Value
values_given sources node outs ins = map (with_origin node.1 ins) (texts_given sources node.0 node.1 outs (map (λ value. value.text) ins))

-- no edge has a value yet
abbrev pub no_value : ℕ → Value
no_value edge = record { text = []; file = false; group = []; maps = [] }

-- what is asked of the values of a node's ins
abbrev pub asks : NodeKind → List Value → List Bool
asks (kind.Cat close) ins = is_cutlist (flat_map (λ value. value.group) ins) ∷ []
asks (kind.Agg inv) ins = is_cutlist (flat_map (λ value. value.maps) ins) ∷ []
asks other ins = []

-- the texts of the sources suit the graph
abbrev pub Suits : List (Cell NodeKind) → List (List ℕ) → Type 0
Suits nodes sources = all_hold (run (values_given sources) (λ node ins. asks node.1 ins) (placed nodes) no_value) ≡ true
