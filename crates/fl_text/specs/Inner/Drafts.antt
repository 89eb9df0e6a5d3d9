-- The graph that a JSON value is, if it is one: each member is taken in the order of its key, and read by itself.
use Rattle.std.specs.Prelude.{ℕ, List, [], ◌∷◌, Bool, true, false, ◌&&◌, ◌==◌, Option, Some, None, option_map, option_and_then, if◌then◌else◌, codes}
use Rattle.std.specs.Str.{bytes_eq, chars, encode_utf8_all}
use Rattle.serde_json.specs.Data.{Data, Items, no_items, item, Members}
use Rattle.serde_json.specs.Find.{as_bool, as_number, as_str, as_array, as_object, as_u64}
use Rattle.serde_json.specs.View.{view}
use Rattle.ps_world.specs.Paths.{Components, path_of}
use Rattle.fl_graph.specs.declared.graphs.Cell.{Cell}
use Rattle.fl_graph.specs.declared.graphs.Graph.{Graph}
use Rattle.fl_graph.specs.declared.graphs.StatusRule.{StatusRule}
use Rattle.fl_graph.specs.declared.graphs.StatusRule.TheVariants as status
use Rattle.fl_graph.specs.declared.kinds.NodeKind.{NodeKind}
use Rattle.fl_text.specs.Names.{name_of}
use Rattle.fl_text.specs.Values.{are_bytes, is_byte, is_count, version}
use Rattle.fl_text.specs.Inner.Kinds.{kind_of}
use Rattle.fl_text.specs.Inner.Members.{found, behind, are_none}
use Rattle.fl_text.specs.declared.fields.Fields.{Fields}
use Rattle.fl_text.specs.declared.names.Name.{Name}
use Rattle.fl_text.specs.declared.parts.Parts.{Parts}

-- ---- values by themselves

abbrev pub where_it_is : (ℕ → Bool) → ℕ → Option ℕ
where_it_is test count = if test count then Some count else None

abbrev pub number_of : (ℕ → Bool) → Data → Option ℕ
number_of test value = option_and_then (where_it_is test) (option_and_then as_u64 (as_number value))

abbrev pub count_of : Data → Option ℕ
count_of value = number_of is_count value

abbrev pub byte_of : Data → Option ℕ
byte_of value = number_of is_byte value

-- the bytes that a text's characters stand for
abbrev pub narrowed : List ℕ → Option (List ℕ)
narrowed characters = if are_bytes characters then Some characters else None

-- the text is these characters, in UTF-8
abbrev pub spelled_by : List ℕ → List ℕ → Option (List ℕ)
spelled_by characters text = if bytes_eq (encode_utf8_all characters) text then narrowed characters else None

abbrev pub bytes_in : List ℕ → Option (List ℕ)
bytes_in text = spelled_by (chars text) text

abbrev pub bytes_of : Data → Option (List ℕ)
bytes_of value = option_and_then bytes_in (as_str value)

abbrev pub path_in : Data → Option Components
path_in value = option_and_then path_of (bytes_of value)

abbrev pub name_in : Data → Option Name
name_in value = option_and_then name_of (bytes_of value)

-- one more in front, if all are there
abbrev pub joined : {Part : Type 0} → Option Part → Option (List Part) → Option (List Part)
joined None parts = None
joined (Some part) parts = option_map (λ parts. part ∷ parts) parts

module _ {Part : Type 0} (read : Data → Option Part) where
  -- each of the items, if all can be read
  abbrev pub each_of : Items → Option (List Part)
  each_of no_items = Some []
  each_of (item value values) = joined (read value) (each_of values)

  abbrev pub all_in : Data → Option (List Part)
  all_in value = option_and_then each_of (as_array value)

  -- what may be left out, and what may not
  abbrev pub optional : Option Data → Option (Option Part)
  optional None = Some None
  optional (Some value) = option_map Some (read value)

  abbrev pub required : Option Data → Option Part
  required value = option_and_then read value

-- ---- a node

-- the parts of these, where all could be read
abbrev pub parts_from : Option Name → Option (Option Bool) → Option (Option Bool) → Option (Option Components) → Option (Option (List ℕ)) → Option (Option (List (List ℕ))) → Option Parts
parts_from None append close path text words = None
parts_from (Some name) None close path text words = None
parts_from (Some name) (Some append) None path text words = None
parts_from (Some name) (Some append) (Some close) None text words = None
parts_from (Some name) (Some append) (Some close) (Some path) None words = None
parts_from (Some name) (Some append) (Some close) (Some path) (Some text) None = None
parts_from (Some name) (Some append) (Some close) (Some path) (Some text) (Some words) =
    Some (record { name = name; append = append; close = close; path = path; text = text; words = words })

-- the node of these, where all could be read
abbrev pub cell_from : {Kind : Type 0} → Option (List ℕ) → Option (List ℕ) → Option ℕ → Option Kind → Option (Cell Kind)
cell_from None outs stage kind = None
cell_from (Some ins) None stage kind = None
cell_from (Some ins) (Some outs) None kind = None
cell_from (Some ins) (Some outs) (Some stage) None = None
cell_from (Some ins) (Some outs) (Some stage) (Some kind) = Some (record { kind = kind; ins = ins; outs = outs; stage = stage })

-- what an object has at the keys of a node
pub record Found : Type 0 where
  pub append : Option Data
  pub close : Option Data
  pub ins : Option Data
  pub kind : Option Data
  pub outs : Option Data
  pub path : Option Data
  pub stage : Option Data
  pub text : Option Data
  pub words : Option Data

abbrev pub parts_in : Found → Option Parts
parts_in fields =
    parts_from (required name_in fields.kind) (optional as_bool fields.append) (optional as_bool fields.close) (optional path_in fields.path)
    (optional bytes_of fields.text) (optional (all_in bytes_of) fields.words)

-- the node of them
abbrev pub node_from : Found → Option (Cell NodeKind)
node_from fields =
    cell_from (required (all_in count_of) fields.ins) (required (all_in count_of) fields.outs) (required count_of fields.stage)
    (option_and_then kind_of (parts_in fields))

abbrev pub fields_view : Fields → Found
fields_view fields = record {
  append = option_map view fields.append;
  close = option_map view fields.close;
  ins = option_map view fields.ins;
  kind = option_map view fields.kind;
  outs = option_map view fields.outs;
  path = option_map view fields.path;
  stage = option_map view fields.stage;
  text = option_map view fields.text;
  words = option_map view fields.words;
}

-- the members behind those keys, up to this one
abbrev pub past_append : Members → Members
past_append members = behind (codes "append") members

abbrev pub past_close : Members → Members
past_close members = behind (codes "close") (past_append members)

abbrev pub past_ins : Members → Members
past_ins members = behind (codes "in") (past_close members)

abbrev pub past_kind : Members → Members
past_kind members = behind (codes "kind") (past_ins members)

abbrev pub past_outs : Members → Members
past_outs members = behind (codes "out") (past_kind members)

abbrev pub past_path : Members → Members
past_path members = behind (codes "path") (past_outs members)

abbrev pub past_stage : Members → Members
past_stage members = behind (codes "stage") (past_path members)

abbrev pub past_text : Members → Members
past_text members = behind (codes "text") (past_stage members)

abbrev pub past_words : Members → Members
past_words members = behind (codes "words") (past_text members)

abbrev pub fields_of : Members → Found
fields_of members = record {
  append = found (codes "append") members;
  close = found (codes "close") (past_append members);
  ins = found (codes "in") (past_close members);
  kind = found (codes "kind") (past_ins members);
  outs = found (codes "out") (past_kind members);
  path = found (codes "path") (past_outs members);
  stage = found (codes "stage") (past_path members);
  text = found (codes "text") (past_stage members);
  words = found (codes "words") (past_text members);
}

abbrev pub node_in_members : Members → Option (Cell NodeKind)
node_in_members members = if are_none (past_words members) then node_from (fields_of members) else None

abbrev pub node_in : Data → Option (Cell NodeKind)
node_in value = option_and_then node_in_members (as_object value)

-- ---- the status rule

abbrev pub selected : Option (List ℕ) → Option ℕ → Option ℕ → Option StatusRule
selected None if_not if_so = None
selected (Some nodes) None if_so = None
selected (Some nodes) (Some if_not) None = None
selected (Some nodes) (Some if_not) (Some if_so) = Some (status.Selected nodes if_so if_not)

abbrev pub past_fixed : Members → Members
past_fixed members = behind (codes "fixed") members

abbrev pub past_nodes : Members → Members
past_nodes members = behind (codes "nodes") members

abbrev pub past_none : Members → Members
past_none members = behind (codes "none") (past_nodes members)

abbrev pub past_some : Members → Members
past_some members = behind (codes "some") (past_none members)

abbrev pub selected_in : Members → Option StatusRule
selected_in members =
    if are_none (past_some members)
    then selected (required (all_in count_of) (found (codes "nodes") members)) (required byte_of (found (codes "none") (past_nodes members)))
    (required byte_of (found (codes "some") (past_none members)))
    else None

abbrev pub fixed_in : Data → Bool → Option StatusRule
fixed_in value true = option_map status.Fixed (byte_of value)
fixed_in value false = None

-- the rule whose first member is, or isn't, the fixed status
abbrev pub rule_in : Option Data → Members → Option StatusRule
rule_in (Some value) members = fixed_in value (are_none (past_fixed members))
rule_in None members = selected_in members

abbrev pub status_in : Data → Option StatusRule
status_in value = option_and_then (λ members. rule_in (found (codes "fixed") members) members) (as_object value)

-- ---- the graph

abbrev pub with_rule : Option (List (Cell NodeKind)) → Option StatusRule → Option Graph
with_rule None rule = None
with_rule (Some nodes) None = None
with_rule (Some nodes) (Some rule) = Some (record { nodes = nodes; status = rule })

abbrev pub past_rule : Members → Members
past_rule members = behind (codes "status") (past_nodes members)

abbrev pub past_version : Members → Members
past_version members = behind (codes "version") (past_rule members)

-- the value is the number of this version
abbrev pub is_version : Option ℕ → Bool
is_version None = false
is_version (Some count) = count == version

abbrev pub graph_in_members : Members → Option Graph
graph_in_members members =
    if are_none (past_version members) && is_version (required count_of (found (codes "version") (past_rule members)))
    then with_rule (required (all_in node_in) (found (codes "nodes") members)) (required status_in (found (codes "status") (past_nodes members)))
    else None

abbrev pub graph_in : Data → Option Graph
graph_in value = option_and_then graph_in_members (as_object value)
