-- One item more in brackets.
use Rattle.std.proofs.Common.{ℕ, ◌≡◌, ◌<◌, Bool, true, false, ◌||◌, List, ◌∷◌, Some, None, refl, ◌∙◌, ap}
use Rattle.ut_regex.specs.declared.brackets.Item.{Item}
use Rattle.ut_regex.specs.Brackets.{begins_with, holds, lists, item, IsItems, next_item, IsNoItems, bad_item, later_item, IsListing, IsNoListing}

or_swap : (a b c : Bool) → (a || (b || c)) ≡ ((b || a) || c)
or_swap true true c = refl
or_swap true false c = refl
or_swap false true c = refl
or_swap false false c = refl

-- what an item adds counts as listed
pub read_more : (text left rest_left : List ℕ) (one : Item) (has_old has_new : ℕ → Bool)
    → ((items : List Item) (rest : List ℕ) → IsItems left items rest → (has : ℕ → Bool)
    → ((byte : ℕ) → byte < 256 → has byte ≡ (lists items byte || has_old byte)) → IsListing text has rest)
    → begins_with 93 left ≡ false → item left ≡ Some (one, rest_left)
    → ((byte : ℕ) → byte < 256 → has_new byte ≡ (holds one byte || has_old byte))
    → (items : List Item) (rest : List ℕ) → IsItems rest_left items rest → (has : ℕ → Bool)
    → ((byte : ℕ) → byte < 256 → has byte ≡ (lists items byte || has_new byte)) → IsListing text has rest
read_more text left rest_left one has_old has_new read goes_on is added items rest follow has same =
    read (one ∷ items) rest (next_item goes_on is follow) has
    (λ byte h. same byte h ∙ ap (λ b. lists items byte || b) (added byte h) ∙ or_swap (lists items byte) (holds one byte) (has_old byte))

-- what begins with an item that isn't one isn't listed
pub none_more : (text left rest_left : List ℕ) (one : Item) → (IsNoItems left → IsNoListing text)
    → begins_with 93 left ≡ false → item left ≡ Some (one, rest_left) → IsNoItems rest_left → IsNoListing text
none_more text left rest_left one none goes_on is h = none (later_item goes_on is h)

pub none_here : (text left : List ℕ) → (IsNoItems left → IsNoListing text)
    → begins_with 93 left ≡ false → item left ≡ None → IsNoListing text
none_here text left none goes_on is = none (bad_item goes_on is)
