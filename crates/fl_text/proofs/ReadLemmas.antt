-- Lists read item by item, and texts by their characters.
use Rattle.std.proofs.Common.{◌≡◌, ℕ, List, [], ◌∷◌, ◌++◌, true, Option, Some, None, option_map, refl, ap, sym, append_assoc, IsUtf8}
use Rattle.std.specs.Str.{bytes_eq, chars, encode_utf8_all}
use Rattle.std.proofs.lemmas.Slice.Eq.{bytes_eq-Decides}
use Rattle.std.proofs.lemmas.Str.{encodes-chars}
use Rattle.fl_text.proofs.PathLemmas.{append_nothing}
use Rattle.fl_text.specs.Inner.Drafts.{bytes_in, joined, narrowed}

module _ {Part : Type 0} where
  -- the parts behind these, if all are there
  abbrev pub before : List Part → Option (List Part) → Option (List Part)
  before front parts = option_map (λ parts. front ++ parts) parts

  pub before-nothing : (parts : Option (List Part)) → before [] parts ≡ parts
  before-nothing None = refl
  before-nothing (Some parts) = refl

  -- one more has been read
  pub before-joined : (front : List Part) (part : Part) (parts : Option (List Part)) → before front (joined (Some part) parts) ≡ before (front ++ part ∷ []) parts
  before-joined front part None = refl
  before-joined front part (Some parts) = ap Some (sym (append_assoc front (part ∷ []) parts))

  pub before-none : (front : List Part) → before front (Some []) ≡ Some front
  before-none front = ap Some (append_nothing front)

pub ruleset one_by_one = (before-nothing, before-joined, before-none)

-- a text is its characters
pub bytes_in-text : (text : List ℕ) → IsUtf8 text → narrowed (chars text) ≡ bytes_in text
bytes_in-text text utf8 =
    let same : bytes_eq (encode_utf8_all (chars text)) text ≡ true = (bytes_eq-Decides (encode_utf8_all (chars text)) text).1 (encodes-chars text utf8) in
    rw same refl

pub ruleset by_characters = (bytes_in-text)
