-- Texts of graphs (own), and what each answer to a text means. The code reads the JSON value by its members; here a text is a graph's where
-- it is a JSON value that equals the graph's.
use Rattle.std.specs.Prelude.{◌≡◌, ℕ, List, Bool, true, false, not, ◌&&◌, ◌==◌, Some, IsUtf8, codes}
use Rattle.std.specs.Option.{option_map_or, option_and_then}
use Rattle.serde_json.specs.Data.{Data}
use Rattle.serde_json.specs.Find.{get, as_number, as_u64}
use Rattle.serde_json.specs.Read.{read}
use Rattle.serde_json.specs.Written.{compact_text}
use Rattle.fl_graph.specs.Valid.{Valid}
use Rattle.fl_graph.specs.declared.graphs.Cell.{Cell}
use Rattle.fl_graph.specs.declared.graphs.Graph.{Graph}
use Rattle.fl_graph.specs.declared.graphs.StatusRule.{StatusRule}
use Rattle.fl_graph.specs.declared.kinds.NodeKind.{NodeKind}
use Rattle.fl_text.specs.Values.{graph_value, is_count, is_held, version}

-- the text of a graph: the compact JSON of its value
abbrev pub graph_text : List (Cell NodeKind) → StatusRule → List ℕ
graph_text cells status = compact_text (graph_value cells status)

-- the text is JSON (RFC 8259), and has this value. Of equal keys the last counts; arrays and objects nest 127 deep at most; a number that no
-- float fits is none
pub record IsJson (text : List ℕ) (value : Data) : Type 0 where
  pub utf8 : IsUtf8 text
  pub value_is : read text ≡ Some value

-- the text is a graph's, valid or not
abbrev pub IsGraphText : List ℕ → Graph → Type 0
IsGraphText text graph = IsJson text (graph_value graph.nodes graph.status)

-- the graph is valid, and the code can hold it
pub record IsGraph (graph : Graph) : Type 0 where
  pub valid : Valid graph.nodes graph.status
  pub held : is_held graph.nodes graph.status ≡ true

-- a whole number, written without a sign, a point and an exponent, that is below 2^32 and isn't this version
abbrev pub is_other_version : ℕ → Bool
is_other_version count = is_count count && not (count == version)

-- the value is an object whose version is another
abbrev pub has_other_version : Data → Bool
has_other_version value =
    option_map_or is_other_version (option_and_then as_u64 (option_and_then as_number (get (codes "version") value))) false

-- no JSON
abbrev pub IsNoJson : List ℕ → Type 0
IsNoJson text = (value : Data) → IsJson text value → ⊥

-- JSON of another version
pub record IsOfOtherVersion (text : List ℕ) : Type 0 where
  pub value : Data
  pub json : IsJson text value
  pub other : has_other_version value ≡ true

-- JSON, of no other version, and of no graph
pub record IsNoGraph (text : List ℕ) : Type 0 where
  pub value : Data
  pub json : IsJson text value
  pub version_is : has_other_version value ≡ false
  pub none : (graph : Graph) → IsGraph graph → IsGraphText text graph → ⊥
