-- The first of an object's members.
use Rattle.std.proofs.Common.{◌≡◌, ℕ, List, [], ◌∷◌, Bool, true, false, Some, None, is_some, String, Global, string_bytes, slice_get, bytes_eq, refl, ap, ◌∙◌, cond}
use Rattle.serde_json.specs.Data.{Data}
use Rattle.serde_json.specs.View.{members_view, view}
use Rattle.serde_json.specs.declared.value.Value.{Value}
use Rattle.fl_text.specs.Inner.Members.{are_none, found}
use Rattle.fl_text.proofs.InverseLemmas.{same_some}

-- a key of a map, and what it has there
abbrev pub Entry : Type 0
Entry = String Global × Value

some-if : (test : Bool) (json : Data) → is_some (cond test (Some json) None) ≡ test
some-if true json = refl
some-if false json = refl

-- it is found by its key
pub first-found : (key : List ℕ) (entries : List Entry) (name : String Global) (value : Value) → slice_get entries 0 ≡ Some (name, value)
    → is_some (found key (members_view entries)) ≡ bytes_eq (string_bytes name) key
first-found key [] name value first = absurd (cc)
first-found key (entry ∷ entries) name value first =
    some-if (bytes_eq (string_bytes entry.0) key) (view entry.1) ∙ ap (λ it. bytes_eq (string_bytes it.0) key) (same_some entry (name, value) first)

-- where there is one, there are members
pub first-left : (entries : List Entry) (entry : Entry) → slice_get entries 0 ≡ Some entry → false ≡ are_none (members_view entries)
first-left [] entry first = absurd (cc)
first-left (one ∷ entries) entry first = refl
