-- The JSON value of a graph (own; RFC 8259). Keys stand in the order of their bytes. A list of bytes is a string of as many characters, each
-- the one of its byte's number, U+0000 to U+00FF.
use Rattle.std.specs.Prelude.{ℕ, ◌^◌, List, Bool, true, ◌&&◌, nat_lt, Option, Some, None, option_map, map, codes, encode_utf8_all}
use Rattle.std.specs.List.{list_all}
use Rattle.std.specs.Option.{option_map_or}
use Rattle.serde_json.specs.Data.{unsigned, Data, boolean, number, string, array, object, Members, no_members, member}
use Rattle.serde_json.specs.View.{items_of}
use Rattle.ps_world.specs.Paths.{Components, is_name, spelled}
use Rattle.fl_graph.specs.declared.graphs.Cell.{Cell}
use Rattle.fl_graph.specs.declared.graphs.StatusRule.{StatusRule}
use Rattle.fl_graph.specs.declared.graphs.StatusRule.TheVariants as status
use Rattle.fl_graph.specs.declared.kinds.NodeKind.{NodeKind}
use Rattle.fl_text.specs.Names.{name_text}
use Rattle.fl_text.specs.Parts.{parts_of}
use Rattle.fl_text.specs.declared.parts.Parts.{Parts}

abbrev pub count_value : ℕ → Data
count_value count = number (unsigned count)

abbrev pub bytes_value : List ℕ → Data
bytes_value bytes = string (encode_utf8_all bytes)

-- a list of parts that have values
abbrev pub list_value : {Part : Type 0} → (Part → Data) → List Part → Data
list_value value parts = array (items_of (map value parts))

-- a path is the text that spells it
abbrev pub path_value : Components → Data
path_value path = bytes_value (spelled path)

-- the member of this key, where there is one
abbrev pub if_some : List ℕ → Option Data → Members → Members
if_some key None members = members
if_some key (Some value) members = member key value members

-- the members of a node's object, over the parts of its kind
abbrev pub cell_members : Cell Parts → Members
cell_members cell =
    if_some (codes "append") (option_map boolean cell.kind.append)
    (if_some (codes "close") (option_map boolean cell.kind.close)
    (member (codes "in") (list_value count_value cell.ins)
    (member (codes "kind") (bytes_value (name_text cell.kind.name))
    (member (codes "out") (list_value count_value cell.outs)
    (if_some (codes "path") (option_map path_value cell.kind.path)
    (member (codes "stage") (count_value cell.stage)
    (if_some (codes "text") (option_map bytes_value cell.kind.text)
    (if_some (codes "words") (option_map (list_value bytes_value) cell.kind.words) no_members))))))))

-- a node with the parts of its kind
abbrev pub in_parts : Cell NodeKind → Cell Parts
in_parts cell = record { kind = parts_of cell.kind; ins = cell.ins; outs = cell.outs; stage = cell.stage }

abbrev pub node_value : Cell NodeKind → Data
node_value cell = object (cell_members (in_parts cell))

abbrev pub status_value : StatusRule → Data
status_value (status.Fixed code) = object (member (codes "fixed") (count_value code) no_members)
status_value (status.Selected nodes some none) =
    object (member (codes "nodes") (list_value count_value nodes)
    (member (codes "none") (count_value none)
    (member (codes "some") (count_value some) no_members)))

-- the version of the format
abbrev pub version : ℕ
version = 1

abbrev pub graph_value : List (Cell NodeKind) → StatusRule → Data
graph_value cells status =
    object (member (codes "nodes") (list_value node_value cells)
    (member (codes "status") (status_value status)
    (member (codes "version") (count_value version) no_members)))

-- ---- what every graph of the code is: its numbers and bytes fit their types, and its paths are normal

abbrev pub is_byte : ℕ → Bool
is_byte byte = nat_lt byte 256

abbrev pub is_count : ℕ → Bool
is_count count = nat_lt count (2 ^ 32)

abbrev pub are_bytes : List ℕ → Bool
are_bytes bytes = list_all is_byte bytes

abbrev pub are_counts : List ℕ → Bool
are_counts counts = list_all is_count counts

abbrev pub is_path : Components → Bool
is_path path = list_all is_name path && are_bytes (spelled path)

abbrev pub are_held_parts : Parts → Bool
are_held_parts parts =
    option_map_or is_path parts.path true && (option_map_or are_bytes parts.text true && option_map_or (λ words. list_all are_bytes words) parts.words true)

abbrev pub is_held_cell : Cell Parts → Bool
is_held_cell cell = are_counts cell.ins && (are_counts cell.outs && (is_count cell.stage && are_held_parts cell.kind))

abbrev pub is_held_node : Cell NodeKind → Bool
is_held_node cell = is_held_cell (in_parts cell)

abbrev pub is_held_status : StatusRule → Bool
is_held_status (status.Fixed code) = is_byte code
is_held_status (status.Selected nodes some none) = are_counts nodes && (is_byte some && is_byte none)

-- the code can hold a graph of these
abbrev pub is_held : List (Cell NodeKind) → StatusRule → Bool
is_held cells status = list_all is_held_node cells && is_held_status status
