-- Bracket expressions (XBD 9.3.5). What is listed is read from the left.
use Rattle.std.specs.Prelude.{ℕ, ◌≡◌, ◌<◌, ◌==◌, ◌&&◌, ◌||◌, not, nat_le, Bool, false, List, [], ◌∷◌, Option, Some, None, if◌then◌else◌, drop, take, position, ◌+◌, ◌⊎◌}
use Rattle.ps_lines.specs.declared.class.Class.{Class}
use Rattle.ps_lines.specs.ByteSet.{has_byte}
use Rattle.ps_lines.specs.Classes.{class_has, class_named}
use Rattle.ut_regex.specs.declared.brackets.Item.{Item}
use Rattle.ut_regex.specs.declared.brackets.Item.TheVariants as element
use Rattle.ut_regex.specs.declared.tree.Leaf.{Leaf}
use Rattle.ut_regex.specs.declared.tree.Leaf.TheVariants.{Byte, Any, Among, NotAmong}
use Rattle.ut_regex.specs.Spans.{is_from}

-- an item has the byte
abbrev pub holds : Item → ℕ → Bool
holds (element.Range first last) byte = is_from first last byte
holds (element.Class name) byte = class_has name byte

-- one of the items has the byte
abbrev pub lists : List Item → ℕ → Bool
lists [] byte = false
lists (one ∷ items) byte = holds one byte || lists items byte

-- the text begins with this byte
abbrev pub begins_with : ℕ → List ℕ → Bool
begins_with byte [] = false
begins_with byte (first ∷ rest) = first == byte

-- a bracket before the text would be special: `:`, `.` or `=` follows
abbrev pub is_special : List ℕ → Bool
is_special [] = false
is_special (first ∷ rest) = first == 58 || first == 46 || first == 61

-- what is behind a closing bracket
abbrev pub behind_close : List ℕ → Option (List ℕ)
behind_close [] = None
behind_close (first ∷ rest) = if first == 93 then Some rest else None

-- the last byte of a range, where a dash follows and a byte other than the closing bracket
abbrev pub range_end : List ℕ → Option (ℕ × List ℕ)
range_end [] = None
range_end (dash ∷ []) = None
range_end (dash ∷ last ∷ rest) = if dash == 45 && not (last == 93) then Some (last, rest) else None

-- a class, which no range begins with
abbrev pub class_alone : Class → List ℕ → Option (ℕ × List ℕ) → Option (Item × List ℕ)
class_alone name rest None = Some (element.Class name, rest)
class_alone name rest (Some end) = None

-- a class and what is behind `:]`, where both are there
abbrev pub class_closed : Option Class → Option (List ℕ) → Option (Item × List ℕ)
class_closed None rest = None
class_closed (Some name) None = None
class_closed (Some name) (Some rest) = class_alone name rest (range_end rest)

-- the class whose name ends at a colon
abbrev pub class_in : List ℕ → Option ℕ → Option (Item × List ℕ)
class_in text None = None
class_in text (Some length) = class_closed (class_named (take length text)) (behind_close (drop (length + 1) text))

-- a class, from the colon in front of its name on. `.` and `=` begin what the C locale has no use for, and it isn't read
abbrev pub class_at : List ℕ → Option (Item × List ℕ)
class_at [] = None
class_at (first ∷ text) = if first == 58 then class_in text (position (λ byte. byte == 58) text) else None

-- a range is in order, and no class is its end; without a range's end the byte stands alone
abbrev pub ranged : ℕ → List ℕ → Option (ℕ × List ℕ) → Option (Item × List ℕ)
ranged first text None = Some (element.Range first first, text)
ranged first text (Some (last, rest)) =
    if nat_le first last && not (last == 91 && is_special rest) then Some (element.Range first last, rest) else None

-- the item that stands first, and what is left
abbrev pub item : List ℕ → Option (Item × List ℕ)
item [] = None
item (first ∷ rest) = if first == 91 && is_special rest then class_at rest else ranged first rest (range_end rest)

-- the items up to the closing bracket
pub data IsItems : List ℕ → List Item → List ℕ → Type 0 where
  no_item : {text rest : List ℕ} → text ≡ 93 ∷ rest → IsItems text [] rest
  next_item : {text left rest : List ℕ} {one : Item} {items : List Item} → begins_with 93 text ≡ false → item text ≡ Some (one, left)
      → IsItems left items rest → IsItems text (one ∷ items) rest

-- there are no items up to a closing bracket
pub data IsNoItems : List ℕ → Type 0 where
  bad_item : {text : List ℕ} → begins_with 93 text ≡ false → item text ≡ None → IsNoItems text
  later_item : {text left : List ℕ} {one : Item} → begins_with 93 text ≡ false → item text ≡ Some (one, left) → IsNoItems left → IsNoItems text

-- the bytes of what is listed. What stands first isn't the closing bracket
pub record IsListing (text : List ℕ) (has : ℕ → Bool) (rest : List ℕ) : Type 0 where
  pub first : Item
  pub left : List ℕ
  pub items : List Item
  pub begins : item text ≡ Some (first, left)
  pub follow : IsItems left items rest
  pub bytes : (byte : ℕ) → byte < 256 → has byte ≡ lists (first ∷ items) byte

-- nothing is listed
abbrev pub IsNoListing : List ℕ → Type 0
IsNoListing text = (item text ≡ None) ⊎ ((first : Item) × (left : List ℕ) × (item text ≡ Some (first, left)) × IsNoItems left)

-- what is read behind an opening bracket: what is listed, or behind a circumflex what isn't
abbrev pub IsBracket : List ℕ → Leaf → List ℕ → Type 0
IsBracket text (Byte byte) rest = ⊥
IsBracket text Any rest = ⊥
IsBracket text (Among set) rest = (begins_with 94 text ≡ false) × IsListing text (has_byte set) rest
IsBracket text (NotAmong set) rest = (listed : List ℕ) × (text ≡ 94 ∷ listed) × IsListing listed (has_byte set) rest

-- there is no bracket expression
abbrev pub IsNoBracket : List ℕ → Type 0
IsNoBracket text = ((begins_with 94 text ≡ false) × IsNoListing text) ⊎ ((listed : List ℕ) × (text ≡ 94 ∷ listed) × IsNoListing listed)
