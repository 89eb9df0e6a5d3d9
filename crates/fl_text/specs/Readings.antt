-- What a text is read as: a graph, or why it is none (own). `IsReadAs` says what each reading means, and `reading` is the one that a text has
-- (`laws`).
use Rattle.std.specs.Prelude.{ℕ, List, Option, Some, None, if◌then◌else◌}
use Rattle.std.specs.Str.{is_utf8}
use Rattle.serde_json.specs.Data.{Data}
use Rattle.serde_json.specs.Read.{read}
use Rattle.fl_graph.specs.Checks.{is_valid}
use Rattle.fl_graph.specs.declared.graphs.Graph.{Graph}
use Rattle.fl_text.specs.Texts.{IsGraph, IsGraphText, IsNoGraph, IsNoJson, IsOfOtherVersion, has_other_version}
use Rattle.fl_text.specs.Inner.Drafts.{graph_in}

pub data Reading : Type 0 where
  -- the text is that of this valid graph
  of_graph : Graph → Reading
  no_json : Reading
  other_version : Reading
  no_graph : Reading

-- a text has this reading
abbrev pub IsReadAs : List ℕ → Reading → Type 0
IsReadAs text (of_graph graph) = IsGraph graph × IsGraphText text graph
IsReadAs text no_json = IsNoJson text
IsReadAs text other_version = IsOfOtherVersion text
IsReadAs text no_graph = IsNoGraph text

-- the reading of a value, by the graph that it is
abbrev pub valid_reading : Option Graph → Reading
valid_reading None = no_graph
valid_reading (Some graph) = if is_valid graph.nodes graph.status then of_graph graph else no_graph

abbrev pub value_reading : Data → Reading
value_reading value = if has_other_version value then other_version else valid_reading (graph_in value)

-- that of a text, by the value that it has where it's JSON
abbrev pub json_reading : Option Data → Reading
json_reading None = no_json
json_reading (Some value) = value_reading value

abbrev pub reading : List ℕ → Reading
reading text = if is_utf8 text then json_reading (read text) else no_json
