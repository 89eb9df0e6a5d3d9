-- Nodes read from the members of their objects, and back.
use Rattle.std.proofs.Common.{◌≡◌, ℕ, List, Bool, true, false, Option, Some, None, option_map, option_and_then, refl, ap, sym, subst, ◌∙◌, cond}
use Rattle.std.specs.Prelude.{codes}
use Rattle.std.specs.List.{list_all}
use Rattle.std.specs.Option.{option_map_or}
use Rattle.std.specs.Str.{bytes_eq}
use Rattle.std.proofs.lemmas.Bool.{and_parts, and_from}
use Rattle.std.proofs.lemmas.Slice.Eq.{bytes_eq-Decides}
use Rattle.serde_json.specs.Data.{Data, null, boolean, number, string, array, object, Members, no_members, member}
use Rattle.serde_json.specs.Find.{as_bool}
use Rattle.ps_world.specs.Paths.{Components}
use Rattle.fl_graph.specs.declared.graphs.Cell.{Cell}
use Rattle.fl_graph.specs.declared.kinds.NodeKind.{NodeKind}
use Rattle.fl_graph.specs.declared.kinds.NodeKind.TheVariants as kind
use Rattle.fl_graph.specs.declared.kinds.From.TheVariants as from
use Rattle.fl_graph.specs.declared.kinds.To.TheVariants as to
use Rattle.fl_text.specs.Names.{name_text}
use Rattle.fl_text.specs.Parts.{parts_of}
use Rattle.fl_text.specs.Values.{are_bytes, are_counts, are_held_parts, bytes_value, cell_members, count_value, if_some, in_parts, is_count, is_held_cell, is_held_node, is_path, list_value, node_value, path_value}
use Rattle.fl_text.specs.declared.names.Name.{Name}
use Rattle.fl_text.specs.declared.parts.Parts.{Parts}
use Rattle.fl_text.specs.Inner.Drafts.{Found, all_in, bytes_of, cell_from, count_of, fields_of, name_in, node_from, node_in, optional, parts_in, past_append, past_close, past_ins, past_kind, past_outs, past_path, past_stage, past_text, past_words, path_in, parts_from, required}
use Rattle.fl_text.specs.Inner.Kinds.{kind_of}
use Rattle.fl_text.specs.Inner.Members.{are_none, behind, found}
use Rattle.fl_text.proofs.InverseLemmas.{Inverse, bytes-inverse, led-forth, list-inverse, name-inverse, number-inverse, optional-back, optional-forth, path-inverse, required-forth, same_some, switch-inverse}
use Rattle.fl_text.proofs.KindLemmas.{kind-back, kind-forth}

pub counts-inverse : Inverse (list_value count_value) (all_in count_of) are_counts
counts-inverse = list-inverse count_value count_of is_count (number-inverse is_count)

words-inverse : Inverse (list_value bytes_value) (all_in bytes_of) (λ words. list_all are_bytes words)
words-inverse = list-inverse bytes_value bytes_of are_bytes bytes-inverse

-- ---- members that were taken

-- what was taken, and what is left
pub taken : (key : List ℕ) (members : Members) → members ≡ if_some key (found key members) (behind key members)
taken key no_members = refl
taken key (member name value rest) = by (bytes_eq name key) refl
  where
    by : (answer : Bool) → bytes_eq name key ≡ answer → member name value rest ≡ if_some key (cond answer (Some value) None) (cond answer rest (member name value rest))
    by true same = ap (λ it. member it value rest) ((bytes_eq-Decides name key).0 same)
    by false same = refl

pub none-forth : (members : Members) → are_none members ≡ true → members ≡ no_members
none-forth no_members none = refl
none-forth (member name value rest) none = absurd (cc)

abbrev rebuilt : Found → Members
rebuilt fields =
    if_some (codes "append") fields.append (if_some (codes "close") fields.close (if_some (codes "in") fields.ins (if_some (codes "kind") fields.kind
    (if_some (codes "out") fields.outs (if_some (codes "path") fields.path (if_some (codes "stage") fields.stage (if_some (codes "text") fields.text
    (if_some (codes "words") fields.words no_members))))))))

all-taken : (members : Members) → are_none (past_words members) ≡ true → members ≡ rebuilt (fields_of members)
all-taken members none =
    taken (codes "append") members ∙ ap (if_some (codes "append") (found (codes "append") members))
    (taken (codes "close") (past_append members) ∙ ap (if_some (codes "close") (found (codes "close") (past_append members)))
    (taken (codes "in") (past_close members) ∙ ap (if_some (codes "in") (found (codes "in") (past_close members)))
    (taken (codes "kind") (past_ins members) ∙ ap (if_some (codes "kind") (found (codes "kind") (past_ins members)))
    (taken (codes "out") (past_kind members) ∙ ap (if_some (codes "out") (found (codes "out") (past_kind members)))
    (taken (codes "path") (past_outs members) ∙ ap (if_some (codes "path") (found (codes "path") (past_outs members)))
    (taken (codes "stage") (past_path members) ∙ ap (if_some (codes "stage") (found (codes "stage") (past_path members)))
    (taken (codes "text") (past_stage members) ∙ ap (if_some (codes "text") (found (codes "text") (past_stage members)))
    (taken (codes "words") (past_text members) ∙ ap (if_some (codes "words") (found (codes "words") (past_text members))) (none-forth (past_words members) none)))))))))

-- ---- what was read

record PartsMade (name : Option Name) (append close : Option (Option Bool)) (path : Option (Option Components)) (text : Option (Option (List ℕ)))
    (words : Option (Option (List (List ℕ)))) (parts : Parts) : Type 0 where
  name_is : name ≡ Some parts.name
  append_is : append ≡ Some parts.append
  close_is : close ≡ Some parts.close
  path_is : path ≡ Some parts.path
  text_is : text ≡ Some parts.text
  words_are : words ≡ Some parts.words

parts-made : (name : Option Name) (append close : Option (Option Bool)) (path : Option (Option Components)) (text : Option (Option (List ℕ)))
    (words : Option (Option (List (List ℕ)))) (parts : Parts) → parts_from name append close path text words ≡ Some parts
    → PartsMade name append close path text words parts
parts-made None append close path text words parts is = absurd (cc)
parts-made (Some name) None close path text words parts is = absurd (cc)
parts-made (Some name) (Some append) None path text words parts is = absurd (cc)
parts-made (Some name) (Some append) (Some close) None text words parts is = absurd (cc)
parts-made (Some name) (Some append) (Some close) (Some path) None words parts is = absurd (cc)
parts-made (Some name) (Some append) (Some close) (Some path) (Some text) None parts is = absurd (cc)
parts-made (Some name) (Some append) (Some close) (Some path) (Some text) (Some words) parts is =
    subst (λ it. PartsMade (Some name) (Some append) (Some close) (Some path) (Some text) (Some words) it) (same_some _ parts is)
    (record { name_is = refl; append_is = refl; close_is = refl; path_is = refl; text_is = refl; words_are = refl })

record CellMade {Kind : Type 0} (ins outs : Option (List ℕ)) (stage : Option ℕ) (what : Option Kind) (cell : Cell Kind) : Type 0 where
  ins_are : ins ≡ Some cell.ins
  outs_are : outs ≡ Some cell.outs
  stage_is : stage ≡ Some cell.stage
  kind_is : what ≡ Some cell.kind

cell-made : {Kind : Type 0} (ins outs : Option (List ℕ)) (stage : Option ℕ) (what : Option Kind) (cell : Cell Kind) → cell_from ins outs stage what ≡ Some cell
    → CellMade ins outs stage what cell
cell-made None outs stage what cell is = absurd (cc)
cell-made (Some ins) None stage what cell is = absurd (cc)
cell-made (Some ins) (Some outs) None what cell is = absurd (cc)
cell-made (Some ins) (Some outs) (Some stage) None cell is = absurd (cc)
cell-made (Some ins) (Some outs) (Some stage) (Some what) cell is =
    subst (λ it. CellMade (Some ins) (Some outs) (Some stage) (Some what) it) (same_some _ cell is)
    (record { ins_are = refl; outs_are = refl; stage_is = refl; kind_is = refl })

members-made : (fields : Found) (cell : Cell Parts) → fields.append ≡ option_map boolean cell.kind.append → fields.close ≡ option_map boolean cell.kind.close
    → fields.ins ≡ Some (list_value count_value cell.ins) → fields.kind ≡ Some (bytes_value (name_text cell.kind.name))
    → fields.outs ≡ Some (list_value count_value cell.outs) → fields.path ≡ option_map path_value cell.kind.path → fields.stage ≡ Some (count_value cell.stage)
    → fields.text ≡ option_map bytes_value cell.kind.text → fields.words ≡ option_map (list_value bytes_value) cell.kind.words
    → rebuilt fields ≡ cell_members cell
members-made fields cell append close ins what outs path stage text words = rw (append, close, ins, what, outs, path, stage, text, words) refl

from-forth : (fields : Found) (cell : Cell NodeKind) → node_from fields ≡ Some cell → (rebuilt fields ≡ cell_members (in_parts cell)) × (is_held_node cell ≡ true)
from-forth fields cell is =
    let made = cell-made (required (all_in count_of) fields.ins) (required (all_in count_of) fields.outs) (required count_of fields.stage)
    (option_and_then kind_of (parts_in fields)) cell is in
    let led = led-forth kind_of (parts_in fields) cell.kind made.kind_is in
    let parts = led.part in
    let read = parts-made (required name_in fields.kind) (optional as_bool fields.append) (optional as_bool fields.close) (optional path_in fields.path)
    (optional bytes_of fields.text) (optional (all_in bytes_of) fields.words) parts led.found_is in
    let name = required-forth (λ name. bytes_value (name_text name)) name_in (λ _. true) name-inverse fields.kind parts.name read.name_is in
    let append = optional-forth boolean as_bool (λ _. true) switch-inverse fields.append parts.append read.append_is in
    let close = optional-forth boolean as_bool (λ _. true) switch-inverse fields.close parts.close read.close_is in
    let path = optional-forth path_value path_in is_path path-inverse fields.path parts.path read.path_is in
    let text = optional-forth bytes_value bytes_of are_bytes bytes-inverse fields.text parts.text read.text_is in
    let words = optional-forth (list_value bytes_value) (all_in bytes_of) (λ words. list_all are_bytes words) words-inverse fields.words parts.words read.words_are in
    let ins = required-forth (list_value count_value) (all_in count_of) are_counts counts-inverse fields.ins cell.ins made.ins_are in
    let outs = required-forth (list_value count_value) (all_in count_of) are_counts counts-inverse fields.outs cell.outs made.outs_are in
    let stage = required-forth count_value count_of is_count (number-inverse is_count) fields.stage cell.stage made.stage_is in
    let held : is_held_cell (record { kind = parts; ins = cell.ins; outs = cell.outs; stage = cell.stage }) ≡ true =
    and_from _ _ ins.1 (and_from _ _ outs.1 (and_from _ _ stage.1 (and_from _ _ path.1 (and_from _ _ text.1 words.1)))) in
    let members : rebuilt fields ≡ cell_members (record { kind = parts; ins = cell.ins; outs = cell.outs; stage = cell.stage }) =
    members-made fields (record { kind = parts; ins = cell.ins; outs = cell.outs; stage = cell.stage })
    append.0 close.0 ins.0 name.0 outs.0 path.0 stage.0 text.0 words.0 in
    subst (λ it. (rebuilt fields ≡ cell_members (record { kind = it; ins = cell.ins; outs = cell.outs; stage = cell.stage }))
    × (is_held_cell (record { kind = it; ins = cell.ins; outs = cell.outs; stage = cell.stage }) ≡ true))
    (sym (kind-forth parts cell.kind led.next_is)) (members, held)

node-forth : (json : Data) (cell : Cell NodeKind) → node_in json ≡ Some cell → (node_value cell ≡ json) × (is_held_node cell ≡ true)
node-forth null cell is = absurd (cc)
node-forth (boolean b) cell is = absurd (cc)
node-forth (number n) cell is = absurd (cc)
node-forth (string s) cell is = absurd (cc)
node-forth (array ds) cell is = absurd (cc)
node-forth (object members) cell is = by (are_none (past_words members)) refl is
  where
    by : (answer : Bool) → are_none (past_words members) ≡ answer → cond answer (node_from (fields_of members)) None ≡ Some cell
        → (node_value cell ≡ object members) × (is_held_node cell ≡ true)
    by false none is = absurd (cc)
    by true none is =
        let made = from-forth (fields_of members) cell is in
        (ap object (sym made.0 ∙ sym (all-taken members none)), made.1)

-- ---- what was written

-- the values at the keys of a node with these parts
abbrev shown : Parts → List ℕ → List ℕ → ℕ → Found
shown parts ins outs stage = record {
  append = option_map boolean parts.append;
  close = option_map boolean parts.close;
  ins = Some (list_value count_value ins);
  kind = Some (bytes_value (name_text parts.name));
  outs = Some (list_value count_value outs);
  path = option_map path_value parts.path;
  stage = Some (count_value stage);
  text = option_map bytes_value parts.text;
  words = option_map (list_value bytes_value) parts.words;
}

abbrev Shows : NodeKind → List ℕ → List ℕ → ℕ → Type 0
Shows what ins outs stage =
    (fields_of (cell_members (record { kind = parts_of what; ins = ins; outs = outs; stage = stage })) ≡ shown (parts_of what) ins outs stage)
    × (are_none (past_words (cell_members (record { kind = parts_of what; ins = ins; outs = outs; stage = stage }))) ≡ true)

shows : (what : NodeKind) (ins outs : List ℕ) (stage : ℕ) → Shows what ins outs stage
shows (kind.Source from.Input) ins outs stage = (refl, refl)
shows (kind.Source (from.File path)) ins outs stage = (refl, refl)
shows (kind.Text text) ins outs stage = (refl, refl)
shows kind.Split ins outs stage = (refl, refl)
shows (kind.Map inv) ins outs stage = (refl, refl)
shows (kind.Whole inv) ins outs stage = (refl, refl)
shows (kind.Cat close) ins outs stage = (refl, refl)
shows (kind.Agg inv) ins outs stage = (refl, refl)
shows (kind.Finish inv) ins outs stage = (refl, refl)
shows (kind.TeeFile path mode) ins outs stage = (refl, refl)
shows kind.Drain ins outs stage = (refl, refl)
shows (kind.Sink to.Output) ins outs stage = (refl, refl)
shows (kind.Sink (to.File path mode)) ins outs stage = (refl, refl)

always : (part : Option Bool) → option_map_or (λ _. true) part true ≡ true
always None = refl
always (Some part) = refl

parts-joined : (name : Option Name) (append close : Option (Option Bool)) (path : Option (Option Components)) (text : Option (Option (List ℕ)))
    (words : Option (Option (List (List ℕ)))) (parts : Parts) → name ≡ Some parts.name → append ≡ Some parts.append → close ≡ Some parts.close → path ≡ Some parts.path
    → text ≡ Some parts.text → words ≡ Some parts.words → parts_from name append close path text words ≡ Some parts
parts-joined name append close path text words parts name_is append_is close_is path_is text_is words_are =
    rw (name_is, append_is, close_is, path_is, text_is, words_are) refl

parts-back : (parts : Parts) (ins outs : List ℕ) (stage : ℕ) → are_held_parts parts ≡ true → parts_in (shown parts ins outs stage) ≡ Some parts
parts-back parts ins outs stage held =
    let first = and_parts (option_map_or is_path parts.path true) _ held in
    let second = and_parts (option_map_or are_bytes parts.text true) _ first.1 in
    parts-joined _ _ _ _ _ _ parts (name-inverse.back parts.name refl)
    (optional-back boolean as_bool (λ _. true) switch-inverse parts.append (always parts.append))
    (optional-back boolean as_bool (λ _. true) switch-inverse parts.close (always parts.close))
    (optional-back path_value path_in is_path path-inverse parts.path first.0)
    (optional-back bytes_value bytes_of are_bytes bytes-inverse parts.text second.0)
    (optional-back (list_value bytes_value) (all_in bytes_of) (λ words. list_all are_bytes words) words-inverse parts.words second.1)

cell-joined : {Kind : Type 0} (ins outs : Option (List ℕ)) (stage : Option ℕ) (what : Option Kind) (cell : Cell Kind) → ins ≡ Some cell.ins
    → outs ≡ Some cell.outs → stage ≡ Some cell.stage → what ≡ Some cell.kind → cell_from ins outs stage what ≡ Some cell
cell-joined ins outs stage what cell ins_are outs_are stage_is kind_is = rw (ins_are, outs_are, stage_is, kind_is) refl

node-back : (cell : Cell NodeKind) → is_held_node cell ≡ true → node_in (node_value cell) ≡ Some cell
node-back cell held =
    let there = shows cell.kind cell.ins cell.outs cell.stage in
    let first = and_parts (are_counts cell.ins) _ held in
    let second = and_parts (are_counts cell.outs) _ first.1 in
    let third = and_parts (is_count cell.stage) _ second.1 in
    ap (λ it. cond it (node_from (fields_of (cell_members (in_parts cell)))) None) there.1
    ∙ (ap node_from there.0
    ∙ cell-joined _ _ _ _ cell (counts-inverse.back cell.ins first.0) (counts-inverse.back cell.outs second.0) ((number-inverse is_count).back cell.stage third.0)
    (ap (option_and_then kind_of) (parts-back (parts_of cell.kind) cell.ins cell.outs cell.stage third.1) ∙ kind-back cell.kind))

pub node-inverse : Inverse node_value node_in is_held_node
node-inverse = record { back = node-back; forth = node-forth }
