-- A graph's value as it is put together, and that it can be written and read.
use Rattle.std.proofs.Common.{◌≡◌, ℕ, suc, ◌+◌, ◌≤◌, ◌<◌, List, [], ◌∷◌, ◌++◌, length, take, get_or, take-suc, Bool, false, ◌||◌, Option, Some, None, option_map, map, String, Global, string_bytes, encode_utf8, encode_utf8_all, refl, ap, ◌∙◌, arith, rules}
use Rattle.std.proofs.lemmas.Str.{encodes-append}
use Rattle.std.specs.Prelude.{codes}
use Rattle.serde_json.specs.Data.{Data, boolean, string, object, Items, Members, no_members, member, put, depth, items_depth, members_depth}
use Rattle.serde_json.specs.Read.{max_depth}
use Rattle.serde_json.specs.View.{items_of, view}
use Rattle.serde_json.specs.declared.value.Value.{the_lemmas}
use Rattle.serde_json.specs.declared.value.Value.{String as StringValue}
use Rattle.serde_json.specs.Written.{has_float, items_have_float, members_have_float}
use Rattle.ps_world.specs.Paths.{Components, spelled}
use Rattle.fl_graph.specs.declared.graphs.Cell.{Cell}
use Rattle.fl_graph.specs.declared.graphs.StatusRule.{StatusRule}
use Rattle.fl_graph.specs.declared.graphs.StatusRule.TheVariants as status
use Rattle.fl_graph.specs.declared.kinds.NodeKind.{NodeKind}
use Rattle.fl_text.specs.Values.{bytes_value, cell_members, count_value, graph_value, if_some, in_parts, list_value, node_value, path_value, status_value, version}
use Rattle.fl_text.specs.Names.{name_text}
use Rattle.fl_text.specs.declared.parts.Parts.{Parts}
use Rattle.fl_text.specs.Parts.{parts_of}
use Rattle.fl_text.specs.Inner.Written.{put_some}
use Rattle.fl_text.proofs.PathLemmas.{append_nothing}

-- ---- members put in from the last to the first

back-put : (text words : Option Data) → put_some (codes "text") text (put_some (codes "words") words no_members) ≡ if_some (codes "text") text (if_some (codes "words") words no_members)
back-put None None = refl
back-put None (Some words) = refl
back-put (Some text) None = refl
back-put (Some text) (Some words) = refl

stage-put : (stage : Data) (text words : Option Data) → put (codes "stage") stage (if_some (codes "text") text (if_some (codes "words") words no_members))
    ≡ member (codes "stage") stage (if_some (codes "text") text (if_some (codes "words") words no_members))
stage-put stage None None = refl
stage-put stage None (Some words) = refl
stage-put stage (Some text) None = refl
stage-put stage (Some text) (Some words) = refl

path-put : (path : Option Data) (stage : Data) (rest : Members) → put_some (codes "path") path (member (codes "stage") stage rest) ≡ if_some (codes "path") path (member (codes "stage") stage rest)
path-put None stage rest = refl
path-put (Some path) stage rest = refl

outs-put : (outs : Data) (path : Option Data) (stage : Data) (rest : Members) → put (codes "out") outs (if_some (codes "path") path (member (codes "stage") stage rest))
    ≡ member (codes "out") outs (if_some (codes "path") path (member (codes "stage") stage rest))
outs-put outs None stage rest = refl
outs-put outs (Some path) stage rest = refl

close-put : (close : Option Data) (ins : Data) (rest : Members) → put_some (codes "close") close (member (codes "in") ins rest) ≡ if_some (codes "close") close (member (codes "in") ins rest)
close-put None ins rest = refl
close-put (Some close) ins rest = refl

append-put : (append close : Option Data) (ins : Data) (rest : Members) → put_some (codes "append") append (if_some (codes "close") close (member (codes "in") ins rest))
    ≡ if_some (codes "append") append (if_some (codes "close") close (member (codes "in") ins rest))
append-put None close ins rest = refl
append-put (Some append) None ins rest = refl
append-put (Some append) (Some close) ins rest = refl

behind-put : (path : Option Data) (stage : Data) (text words : Option Data)
    → put_some (codes "path") path (put (codes "stage") stage (put_some (codes "text") text (put_some (codes "words") words no_members)))
    ≡ if_some (codes "path") path (member (codes "stage") stage (if_some (codes "text") text (if_some (codes "words") words no_members)))
behind-put path stage text words =
    ap (λ it. put_some (codes "path") path (put (codes "stage") stage it)) (back-put text words)
    ∙ (ap (put_some (codes "path") path) (stage-put stage text words) ∙ path-put path stage _)

members-put : (append close : Option Data) (ins what outs : Data) (path : Option Data) (stage : Data) (text words : Option Data)
    → put_some (codes "append") append (put_some (codes "close") close (put (codes "in") ins (put (codes "kind") what (put (codes "out") outs
    (put_some (codes "path") path (put (codes "stage") stage (put_some (codes "text") text (put_some (codes "words") words no_members))))))))
    ≡ if_some (codes "append") append (if_some (codes "close") close (member (codes "in") ins (member (codes "kind") what (member (codes "out") outs
    (if_some (codes "path") path (member (codes "stage") stage (if_some (codes "text") text (if_some (codes "words") words no_members))))))))
members-put append close ins what outs path stage text words =
    ap (λ it. put_some (codes "append") append (put_some (codes "close") close (put (codes "in") ins (put (codes "kind") what (put (codes "out") outs it)))))
    (behind-put path stage text words)
    ∙ (ap (λ it. put_some (codes "append") append (put_some (codes "close") close (put (codes "in") ins (put (codes "kind") what it)))) (outs-put outs path stage _)
    ∙ (ap (put_some (codes "append") append) (close-put close ins _) ∙ append-put append close ins _))

-- what was put in is what was wanted
some-put : (key : List ℕ) (wanted given : Option Data) (old new : Members) → given ≡ wanted → new ≡ put_some key given old → new ≡ put_some key wanted old
some-put key wanted given old new same is = is ∙ ap (λ it. put_some key it old) same

one-put : (key : List ℕ) (wanted given : Data) (old new : Members) → given ≡ wanted → new ≡ put key given old → new ≡ put key wanted old
one-put key wanted given old new same is = is ∙ ap (λ it. put key it old) same

-- the members of a node, put in one after another
pub cell-put : (cell : Cell NodeKind) (start with_words with_text with_stage with_path with_outs with_name with_ins with_close with_append : Members)
    (words text path close append : Option Data) (stage outs name ins : Data) → start ≡ no_members
    → words ≡ option_map (list_value bytes_value) (parts_of cell.kind).words → with_words ≡ put_some (codes "words") words start
    → text ≡ option_map bytes_value (parts_of cell.kind).text → with_text ≡ put_some (codes "text") text with_words
    → stage ≡ count_value cell.stage → with_stage ≡ put (codes "stage") stage with_text
    → path ≡ option_map path_value (parts_of cell.kind).path → with_path ≡ put_some (codes "path") path with_stage
    → outs ≡ list_value count_value cell.outs → with_outs ≡ put (codes "out") outs with_path
    → name ≡ bytes_value (name_text (parts_of cell.kind).name) → with_name ≡ put (codes "kind") name with_outs
    → ins ≡ list_value count_value cell.ins → with_ins ≡ put (codes "in") ins with_name
    → close ≡ option_map boolean (parts_of cell.kind).close → with_close ≡ put_some (codes "close") close with_ins
    → append ≡ option_map boolean (parts_of cell.kind).append → with_append ≡ put_some (codes "append") append with_close
    → object with_append ≡ node_value cell
cell-put cell start with_words with_text with_stage with_path with_outs with_name with_ins with_close with_append words text path close append stage outs name ins start_is words_are words_put text_is text_put stage_is stage_put path_is path_put outs_are outs_put name_is name_put ins_are ins_put close_is close_put append_is append_put =
    let parts = parts_of cell.kind in
    let to_words : with_words ≡ put_some (codes "words") (option_map (list_value bytes_value) parts.words) no_members =
    some-put (codes "words") (option_map (list_value bytes_value) parts.words) words start with_words words_are words_put
    ∙ ap (put_some (codes "words") (option_map (list_value bytes_value) parts.words)) start_is in
    let to_text = some-put (codes "text") (option_map bytes_value parts.text) text with_words with_text text_is text_put
    ∙ ap (put_some (codes "text") (option_map bytes_value parts.text)) to_words in
    let to_stage = one-put (codes "stage") (count_value cell.stage) stage with_text with_stage stage_is stage_put
    ∙ ap (put (codes "stage") (count_value cell.stage)) to_text in
    let to_path = some-put (codes "path") (option_map path_value parts.path) path with_stage with_path path_is path_put
    ∙ ap (put_some (codes "path") (option_map path_value parts.path)) to_stage in
    let to_outs = one-put (codes "out") (list_value count_value cell.outs) outs with_path with_outs outs_are outs_put
    ∙ ap (put (codes "out") (list_value count_value cell.outs)) to_path in
    let to_name = one-put (codes "kind") (bytes_value (name_text parts.name)) name with_outs with_name name_is name_put
    ∙ ap (put (codes "kind") (bytes_value (name_text parts.name))) to_outs in
    let to_ins = one-put (codes "in") (list_value count_value cell.ins) ins with_name with_ins ins_are ins_put
    ∙ ap (put (codes "in") (list_value count_value cell.ins)) to_name in
    let to_close = some-put (codes "close") (option_map boolean parts.close) close with_ins with_close close_is close_put
    ∙ ap (put_some (codes "close") (option_map boolean parts.close)) to_ins in
    let to_append = some-put (codes "append") (option_map boolean parts.append) append with_close with_append append_is append_put
    ∙ ap (put_some (codes "append") (option_map boolean parts.append)) to_close in
    ap object (to_append ∙ members-put (option_map boolean parts.append) (option_map boolean parts.close) (list_value count_value cell.ins) (bytes_value (name_text parts.name))
    (list_value count_value cell.outs) (option_map path_value parts.path) (count_value cell.stage) (option_map bytes_value parts.text)
    (option_map (list_value bytes_value) parts.words))

-- ---- bytes as a string

pub view-String : (text : String Global) → view (StringValue text) ≡ string (string_bytes text)
view-String text = search (rules, the_lemmas)

-- the characters of one byte more
pub encodes-next : (bytes : List ℕ) (index fallback : ℕ) → index < length bytes
    → encode_utf8_all (take (index + 1) bytes) ≡ encode_utf8_all (take index bytes) ++ encode_utf8 (get_or bytes index fallback)
encodes-next bytes index fallback less =
    let next : index + 1 ≡ suc index = omega arith in
    ap (λ it. encode_utf8_all (take it bytes)) next ∙ (ap encode_utf8_all (take-suc bytes index fallback less)
    ∙ (encodes-append (take index bytes) (get_or bytes index fallback ∷ [])
    ∙ ap (λ it. encode_utf8_all (take index bytes) ++ it) (append_nothing (encode_utf8 (get_or bytes index fallback)))))

-- ---- no float, and no deep nesting

-- no number is a float, and arrays and objects nest so deep at most
record IsPlain (most : ℕ) (json : Data) : Type 0 where
  no_float : has_float json ≡ false
  shallow : depth json ≤ most

record AreItemsPlain (most : ℕ) (items : Items) : Type 0 where
  no_float : items_have_float items ≡ false
  shallow : items_depth items ≤ most

record AreMembersPlain (most : ℕ) (members : Members) : Type 0 where
  no_float : members_have_float members ≡ false
  shallow : members_depth members ≤ most

count-plain : (most count : ℕ) → IsPlain most (count_value count)
count-plain most count = record { no_float = refl; shallow = omega arith }

switch-plain : (most : ℕ) (is_on : Bool) → IsPlain most (boolean is_on)
switch-plain most is_on = record { no_float = refl; shallow = omega arith }

bytes-plain : (most : ℕ) (bytes : List ℕ) → IsPlain most (bytes_value bytes)
bytes-plain most bytes = record { no_float = refl; shallow = omega arith }

object-plain : (most : ℕ) (inner : Members) → AreMembersPlain most inner → IsPlain (suc most) (object inner)
object-plain most inner are = let less = are.shallow in record { no_float = are.no_float; shallow = omega arith }

none-plain : (most : ℕ) → AreMembersPlain most no_members
none-plain most = record { no_float = refl; shallow = omega arith }

member-plain : (most : ℕ) (key : List ℕ) (json : Data) (rest : Members) → IsPlain most json → AreMembersPlain most rest → AreMembersPlain most (member key json rest)
member-plain most key json rest first others =
    let less = first.shallow in
    let others_less = others.shallow in
    record { no_float = ap (λ it. it || members_have_float rest) first.no_float ∙ others.no_float; shallow = omega arith }

module _ {Part : Type 0} (value : Part → Data) (most : ℕ) (each : (part : Part) → IsPlain most (value part)) where
  items-plain : (parts : List Part) → AreItemsPlain most (items_of (map value parts))
  items-plain [] = record { no_float = refl; shallow = omega arith }
  items-plain (part ∷ parts) =
      let first = each part in
      let less = first.shallow in
      let others = items-plain parts in
      let others_less = others.shallow in
      record { no_float = ap (λ it. it || items_have_float (items_of (map value parts))) first.no_float ∙ others.no_float; shallow = omega arith }

  list-plain : (parts : List Part) → IsPlain (suc most) (list_value value parts)
  list-plain parts = let all = items-plain parts in let less = all.shallow in record { no_float = all.no_float; shallow = omega arith }

  some-plain : (key : List ℕ) (part : Option Part) (rest : Members) → AreMembersPlain most rest → AreMembersPlain most (if_some key (option_map value part) rest)
  some-plain key None rest others = others
  some-plain key (Some part) rest others = member-plain most key (value part) rest (each part) others

counts-plain : (counts : List ℕ) → IsPlain 1 (list_value count_value counts)
counts-plain counts = list-plain count_value 0 (count-plain 0) counts

words-plain : (words : List (List ℕ)) → IsPlain 1 (list_value bytes_value words)
words-plain words = list-plain bytes_value 0 (bytes-plain 0) words

path-plain : (path : Components) → IsPlain 1 (path_value path)
path-plain path = bytes-plain 1 (spelled path)

cell-plain : (cell : Cell Parts) → IsPlain 2 (object (cell_members cell))
cell-plain cell =
    object-plain 1 _
    (some-plain boolean 1 (switch-plain 1) (codes "append") cell.kind.append _
    (some-plain boolean 1 (switch-plain 1) (codes "close") cell.kind.close _
    (member-plain 1 (codes "in") _ _ (counts-plain cell.ins)
    (member-plain 1 (codes "kind") _ _ (bytes-plain 1 (name_text cell.kind.name))
    (member-plain 1 (codes "out") _ _ (counts-plain cell.outs)
    (some-plain path_value 1 path-plain (codes "path") cell.kind.path _
    (member-plain 1 (codes "stage") _ _ (count-plain 1 cell.stage)
    (some-plain bytes_value 1 (bytes-plain 1) (codes "text") cell.kind.text _
    (some-plain (list_value bytes_value) 1 words-plain (codes "words") cell.kind.words no_members (none-plain 1))))))))))

node-plain : (cell : Cell NodeKind) → IsPlain 2 (node_value cell)
node-plain cell = cell-plain (in_parts cell)

status-plain : (rule : StatusRule) → IsPlain 3 (status_value rule)
status-plain (status.Fixed code) = object-plain 2 _ (member-plain 2 (codes "fixed") _ _ (count-plain 2 code) (none-plain 2))
status-plain (status.Selected nodes some none) =
    object-plain 2 _
    (member-plain 2 (codes "nodes") _ _ (list-plain count_value 1 (count-plain 1) nodes)
    (member-plain 2 (codes "none") _ _ (count-plain 2 none)
    (member-plain 2 (codes "some") _ _ (count-plain 2 some) (none-plain 2))))

graph-plain : (cells : List (Cell NodeKind)) (rule : StatusRule) → IsPlain 4 (graph_value cells rule)
graph-plain cells rule =
    object-plain 3 _
    (member-plain 3 (codes "nodes") _ _ (list-plain node_value 2 node-plain cells)
    (member-plain 3 (codes "status") _ _ (status-plain rule)
    (member-plain 3 (codes "version") _ _ (count-plain 3 version) (none-plain 3))))

pub graph-float : (cells : List (Cell NodeKind)) (rule : StatusRule) → has_float (graph_value cells rule) ≡ false
graph-float cells rule = (graph-plain cells rule).no_float

pub graph-depth : (cells : List (Cell NodeKind)) (rule : StatusRule) → depth (graph_value cells rule) ≤ max_depth
graph-depth cells rule = let less = (graph-plain cells rule).shallow in omega arith
