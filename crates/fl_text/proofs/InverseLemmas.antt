-- Values that are read back: what a value reads as, and which value was read.
use Rattle.std.proofs.Common.{◌≡◌, ◌<◌, ℕ, List, [], ◌∷◌, Bool, true, false, Option, Some, None, option_map, option_and_then, map, refl, ap, sym, subst, ◌∙◌, cond, if◌then◌else◌, arith}
use Rattle.std.specs.List.{find, list_all}
use Rattle.std.specs.Option.{option_map_or}
use Rattle.std.specs.Str.{bytes_eq, chars, encode_utf8_all}
use Rattle.std.proofs.lemmas.Bool.{and_parts, and_from, ltb-true}
use Rattle.std.proofs.lemmas.Slice.Eq.{bytes_eq-Decides}
use Rattle.std.proofs.lemmas.Str.{chars-encodes}
use lib.Utf8.{low_scalar, scalar, scalars}
use Rattle.serde_json.specs.Data.{unsigned, negative, float, Data, null, boolean, number, string, array, object, Items, no_items, item}
use Rattle.serde_json.specs.Find.{as_bool}
use Rattle.serde_json.specs.View.{items_of}
use Rattle.ps_world.specs.Paths.{Components, is_name, path_of, spelled}
use Rattle.fl_text.specs.Names.{all_names, name_of, name_text}
use Rattle.fl_text.specs.Values.{are_bytes, bytes_value, count_value, is_byte, is_path, list_value, path_value}
use Rattle.fl_text.specs.Inner.Drafts.{all_in, bytes_of, each_of, joined, name_in, narrowed, number_of, optional, path_in, required, spelled_by}
use Rattle.fl_text.specs.declared.names.Name.{Name}
use Rattle.fl_text.specs.declared.names.Name.TheVariants as name
use Rattle.fl_text.proofs.PathLemmas.{path-back, path-forth}

-- two that are there are one
pub same_some : {Part : Type 0} (one other : Part) → Some one ≡ Some other → one ≡ other
same_some one other is = cc

-- what passes the test has a value that is read as it; and what is read has that value, and passes the test
pub record Inverse {Part : Type 0} (value : Part → Data) (read : Data → Option Part) (test : Part → Bool) : Type 0 where
  pub back : (part : Part) → test part ≡ true → read (value part) ≡ Some part
  pub forth : (json : Data) (part : Part) → read json ≡ Some part → (value part ≡ json) × (test part ≡ true)

-- ---- lists, and what may be left out

pub record Joined {Part : Type 0} (first : Option Part) (rest : Option (List Part)) (parts : List Part) : Type 0 where
  pub part : Part
  pub others : List Part
  pub first_is : first ≡ Some part
  pub rest_is : rest ≡ Some others
  pub parts_are : part ∷ others ≡ parts

joined-forth : {Part : Type 0} (first : Option Part) (rest : Option (List Part)) (parts : List Part) → joined first rest ≡ Some parts → Joined first rest parts
joined-forth None rest parts is = absurd (cc)
joined-forth (Some part) None parts is = absurd (cc)
joined-forth (Some part) (Some others) parts is = record { part = part; others = others; first_is = refl; rest_is = refl; parts_are = same_some (part ∷ others) parts is }

pub record Mapped {Part Whole : Type 0} (make : Part → Whole) (found : Option Part) (whole : Whole) : Type 0 where
  pub part : Part
  pub found_is : found ≡ Some part
  pub whole_is : make part ≡ whole

pub mapped-forth : {Part Whole : Type 0} (make : Part → Whole) (found : Option Part) (whole : Whole) → option_map make found ≡ Some whole → Mapped make found whole
mapped-forth make None whole is = absurd (cc)
mapped-forth make (Some part) whole is = record { part = part; found_is = refl; whole_is = same_some (make part) whole is }

module _ {Part : Type 0} (value : Part → Data) (read : Data → Option Part) (test : Part → Bool) (inverse : Inverse value read test) where
  each-back : (parts : List Part) → list_all test parts ≡ true → each_of read (items_of (map value parts)) ≡ Some parts
  each-back [] all = refl
  each-back (part ∷ parts) all =
      let halves = and_parts (test part) (list_all test parts) all in
      ap (λ first. joined first (each_of read (items_of (map value parts)))) (inverse.back part halves.0) ∙ ap (joined (Some part)) (each-back parts halves.1)

  each-forth : (items : Items) (parts : List Part) → each_of read items ≡ Some parts → (items_of (map value parts) ≡ items) × (list_all test parts ≡ true)
  each-forth no_items parts is = subst (λ it. (items_of (map value it) ≡ no_items) × (list_all test it ≡ true)) (same_some [] parts is) (refl, refl)
  each-forth (item json items) parts is =
      let made = joined-forth (read json) (each_of read items) parts is in
      let first = inverse.forth json made.part made.first_is in
      let rest = each-forth items made.others made.rest_is in
      subst (λ it. (items_of (map value it) ≡ item json items) × (list_all test it ≡ true)) made.parts_are
      (ap (λ one. item one (items_of (map value made.others))) first.0 ∙ ap (item json) rest.0, and_from (test made.part) (list_all test made.others) first.1 rest.1)

  list-forth : (json : Data) (parts : List Part) → all_in read json ≡ Some parts → (list_value value parts ≡ json) × (list_all test parts ≡ true)
  list-forth null parts is = absurd (cc)
  list-forth (boolean b) parts is = absurd (cc)
  list-forth (number n) parts is = absurd (cc)
  list-forth (string s) parts is = absurd (cc)
  list-forth (object ms) parts is = absurd (cc)
  list-forth (array items) parts is = let it = each-forth items parts is in (ap array it.0, it.1)

  pub list-inverse : Inverse (list_value value) (all_in read) (list_all test)
  list-inverse = record { back = each-back; forth = list-forth }

  pub optional-back : (part : Option Part) → option_map_or test part true ≡ true → optional read (option_map value part) ≡ Some part
  optional-back None held = refl
  optional-back (Some part) held = ap (option_map Some) (inverse.back part held)

  pub optional-forth : (json : Option Data) (part : Option Part) → optional read json ≡ Some part → (json ≡ option_map value part) × (option_map_or test part true ≡ true)
  optional-forth None part is = subst (λ it. (None ≡ option_map value it) × (option_map_or test it true ≡ true)) (same_some None part is) (refl, refl)
  optional-forth (Some json) part is =
      let made = mapped-forth Some (read json) part is in
      let there = inverse.forth json made.part made.found_is in
      subst (λ it. (Some json ≡ option_map value it) × (option_map_or test it true ≡ true)) made.whole_is (ap Some (sym there.0), there.1)

  pub required-forth : (json : Option Data) (part : Part) → required read json ≡ Some part → (json ≡ Some (value part)) × (test part ≡ true)
  required-forth None part is = absurd (cc)
  required-forth (Some json) part is = let there = inverse.forth json part is in (ap Some (sym there.0), there.1)

-- ---- numbers

where-forth : (test : ℕ → Bool) (count there : ℕ) (answer : Bool) → test there ≡ answer → (if answer then Some there else None) ≡ Some count → (count_value count ≡ count_value there) × (test count ≡ true)
where-forth test count there false holds is = absurd (cc)
where-forth test count there true holds is =
    subst (λ it. (count_value it ≡ count_value there) × (test it ≡ true)) (same_some there count is) (refl, holds)

number-forth : (test : ℕ → Bool) (json : Data) (count : ℕ) → number_of test json ≡ Some count → (count_value count ≡ json) × (test count ≡ true)
number-forth test null count is = absurd (cc)
number-forth test (boolean b) count is = absurd (cc)
number-forth test (string s) count is = absurd (cc)
number-forth test (array ds) count is = absurd (cc)
number-forth test (object ms) count is = absurd (cc)
number-forth test (number (negative z)) count is = absurd (cc)
number-forth test (number (float x)) count is = absurd (cc)
number-forth test (number (unsigned there)) count is = where-forth test count there (test there) refl is

number-back : (test : ℕ → Bool) (count : ℕ) → test count ≡ true → number_of test (count_value count) ≡ Some count
number-back test count held = rw held refl

pub number-inverse : (test : ℕ → Bool) → Inverse count_value (number_of test) test
number-inverse test = record { back = number-back test; forth = number-forth test }

-- ---- truth values

switch-forth : (json : Data) (is_on : Bool) → as_bool json ≡ Some is_on → (boolean is_on ≡ json) × (true ≡ true)
switch-forth null is_on is = absurd (cc)
switch-forth (boolean b) is_on is = (ap boolean (sym (same_some b is_on is)), refl)
switch-forth (number n) is_on is = absurd (cc)
switch-forth (string s) is_on is = absurd (cc)
switch-forth (array ds) is_on is = absurd (cc)
switch-forth (object ms) is_on is = absurd (cc)

pub switch-inverse : Inverse boolean as_bool (λ _. true)
switch-inverse = record { back = λ is_on held. refl; forth = switch-forth }

-- ---- bytes

-- a byte is a character
scalars-bytes : (bytes : List ℕ) → are_bytes bytes ≡ true → scalars bytes ≡ true
scalars-bytes [] held = refl
scalars-bytes (byte ∷ bytes) held =
    let halves = and_parts (is_byte byte) (are_bytes bytes) held in
    let small : byte < 256 = ltb-true byte 256 halves.0 in
    and_from (scalar byte) (scalars bytes) (low_scalar byte (omega arith)) (scalars-bytes bytes halves.1)

-- characters that are a text's are narrowed to it
spelled-back : (bytes text : List ℕ) → encode_utf8_all bytes ≡ text → are_bytes bytes ≡ true → spelled_by bytes text ≡ Some bytes
spelled-back bytes text same held =
    let spells : bytes_eq (encode_utf8_all bytes) text ≡ true = (bytes_eq-Decides (encode_utf8_all bytes) text).1 same in
    rw (spells, held) refl

bytes-back : (bytes : List ℕ) → are_bytes bytes ≡ true → bytes_of (bytes_value bytes) ≡ Some bytes
bytes-back bytes held =
    ap (λ it. spelled_by it (encode_utf8_all bytes)) (chars-encodes bytes (scalars-bytes bytes held)) ∙ spelled-back bytes (encode_utf8_all bytes) refl held

narrowed-forth : (characters bytes : List ℕ) (answer : Bool) → are_bytes characters ≡ answer → (if answer then Some characters else None) ≡ Some bytes → (characters ≡ bytes) × (are_bytes bytes ≡ true)
narrowed-forth characters bytes false held is = absurd (cc)
narrowed-forth characters bytes true held is =
    subst (λ it. (characters ≡ it) × (are_bytes it ≡ true)) (same_some characters bytes is) (refl, held)

spelled-forth : (characters text bytes : List ℕ) (answer : Bool) → bytes_eq (encode_utf8_all characters) text ≡ answer
    → (if answer then narrowed characters else None) ≡ Some bytes → (bytes_value bytes ≡ string text) × (are_bytes bytes ≡ true)
spelled-forth characters text bytes false same is = absurd (cc)
spelled-forth characters text bytes true same is =
    let narrow = narrowed-forth characters bytes (are_bytes characters) refl is in
    (ap string (ap encode_utf8_all (sym narrow.0) ∙ (bytes_eq-Decides (encode_utf8_all characters) text).0 same), narrow.1)

bytes-forth : (json : Data) (bytes : List ℕ) → bytes_of json ≡ Some bytes → (bytes_value bytes ≡ json) × (are_bytes bytes ≡ true)
bytes-forth null bytes is = absurd (cc)
bytes-forth (boolean b) bytes is = absurd (cc)
bytes-forth (number n) bytes is = absurd (cc)
bytes-forth (string text) bytes is = spelled-forth (chars text) text bytes (bytes_eq (encode_utf8_all (chars text)) text) refl is
bytes-forth (array ds) bytes is = absurd (cc)
bytes-forth (object ms) bytes is = absurd (cc)

pub bytes-inverse : Inverse bytes_value bytes_of are_bytes
bytes-inverse = record { back = bytes-back; forth = bytes-forth }

-- ---- what strings of bytes stand for

pub record Led {Part Whole : Type 0} (next : Part → Option Whole) (found : Option Part) (whole : Whole) : Type 0 where
  pub part : Part
  pub found_is : found ≡ Some part
  pub next_is : next part ≡ Some whole

pub led-forth : {Part Whole : Type 0} (next : Part → Option Whole) (found : Option Part) (whole : Whole) → option_and_then next found ≡ Some whole → Led next found whole
led-forth next None whole is = absurd (cc)
led-forth next (Some part) whole is = record { part = part; found_is = refl; next_is = is }

names-forth : (names : List Name) (text : List ℕ) (name : Name) → find (λ name. bytes_eq (name_text name) text) names ≡ Some name → bytes_eq (name_text name) text ≡ true
names-forth [] text name is = absurd (cc)
names-forth (first ∷ names) text name is = by (bytes_eq (name_text first) text) refl is (names-forth names text name)
  where
    by : (answer : Bool) → bytes_eq (name_text first) text ≡ answer → cond answer (Some first) (find (λ name. bytes_eq (name_text name) text) names) ≡ Some name
        → (find (λ name. bytes_eq (name_text name) text) names ≡ Some name → bytes_eq (name_text name) text ≡ true) → bytes_eq (name_text name) text ≡ true
    by true same is rest = subst (λ it. bytes_eq (name_text it) text ≡ true) (same_some first name is) same
    by false same is rest = rest is

name_of-forth : (text : List ℕ) (name : Name) → name_of text ≡ Some name → name_text name ≡ text
unfolding name_of
name_of-forth text name is = (bytes_eq-Decides (name_text name) text).0 (names-forth all_names text name is)

name_of-back : (name : Name) → name_of (name_text name) ≡ Some name
unfolding name_of
name_of-back name.Source = refl
name_of-back name.Text = refl
name_of-back name.Split = refl
name_of-back name.Map = refl
name_of-back name.Whole = refl
name_of-back name.Cat = refl
name_of-back name.Agg = refl
name_of-back name.Finish = refl
name_of-back name.Tee = refl
name_of-back name.Drain = refl
name_of-back name.Sink = refl

name-bytes : (name : Name) → are_bytes (name_text name) ≡ true
name-bytes name.Source = refl
name-bytes name.Text = refl
name-bytes name.Split = refl
name-bytes name.Map = refl
name-bytes name.Whole = refl
name-bytes name.Cat = refl
name-bytes name.Agg = refl
name-bytes name.Finish = refl
name-bytes name.Tee = refl
name-bytes name.Drain = refl
name-bytes name.Sink = refl

name-back : (name : Name) → true ≡ true → name_in (bytes_value (name_text name)) ≡ Some name
name-back name held = ap (option_and_then name_of) (bytes-back (name_text name) (name-bytes name)) ∙ name_of-back name

name-forth : (json : Data) (name : Name) → name_in json ≡ Some name → (bytes_value (name_text name) ≡ json) × (true ≡ true)
name-forth json name is =
    let made = led-forth name_of (bytes_of json) name is in
    (ap bytes_value (name_of-forth made.part name made.next_is) ∙ (bytes-forth json made.part made.found_is).0, refl)

pub name-inverse : Inverse (λ name. bytes_value (name_text name)) name_in (λ _. true)
name-inverse = record { back = name-back; forth = name-forth }

path_in-back : (path : Components) → is_path path ≡ true → path_in (path_value path) ≡ Some path
path_in-back path held =
    let halves = and_parts (list_all is_name path) (are_bytes (spelled path)) held in
    ap (option_and_then path_of) (bytes-back (spelled path) halves.1) ∙ path-back path halves.0

path_in-forth : (json : Data) (path : Components) → path_in json ≡ Some path → (path_value path ≡ json) × (is_path path ≡ true)
path_in-forth json path is =
    let made = led-forth path_of (bytes_of json) path is in
    let there = path-forth made.part path made.next_is in
    let bytes = bytes-forth json made.part made.found_is in
    (ap bytes_value there.0 ∙ bytes.0, and_from (list_all is_name path) (are_bytes (spelled path)) there.1 (ap are_bytes there.0 ∙ bytes.1))

pub path-inverse : Inverse path_value path_in is_path
path-inverse = record { back = path_in-back; forth = path_in-forth }
