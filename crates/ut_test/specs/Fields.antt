-- The fields that `read` gives to its names (XCU read, 2.6.5): the line is split by the bytes of IFS, but into no more fields than there
-- are names. White space of IFS separates fields, and is dropped at the ends of the line; each other byte of IFS ends a field, with the
-- white space beside it. The last name gets what is left, without white space of IFS at its end (own: another byte of IFS there stays).
-- No byte quotes another. The code cuts off one field after another.
use Rattle.std.specs.Prelude.{◌≡◌, ℕ, zero, suc, ◌-◌, ◌==◌, ◌&&◌, ◌||◌, Bool, true, false, List, [], ◌∷◌, ◌++◌, reverse, if◌then◌else◌}
use Rattle.std.specs.List.{list_all, list_any}
use Rattle.ps_lines.specs.Bytes.{is_white_space}

-- the byte is in IFS
abbrev pub is_in : List ℕ → ℕ → Bool
is_in ifs byte = list_any (λ one. byte == one) ifs

-- white space of IFS: its spaces, tabs and newlines. Here and below the first argument says which bytes are in IFS
abbrev pub is_white : (ℕ → Bool) → ℕ → Bool
is_white separates byte = separates byte && is_white_space byte

-- a text without the white space at its beginning, and at its end
abbrev pub past_white : (ℕ → Bool) → List ℕ → List ℕ
past_white separates [] = []
past_white separates (byte ∷ rest) = if is_white separates byte then past_white separates rest else byte ∷ rest

abbrev pub before_white : (ℕ → Bool) → List ℕ → List ℕ
before_white separates text = reverse (past_white separates (reverse text))

-- the field that a text begins with: its bytes before the first that is in IFS
abbrev pub field_of : (ℕ → Bool) → List ℕ → List ℕ
field_of separates [] = []
field_of separates (byte ∷ rest) = if separates byte then [] else byte ∷ field_of separates rest

-- the text from the end of that field on
abbrev pub from_end : (ℕ → Bool) → List ℕ → List ℕ
from_end separates [] = []
from_end separates (byte ∷ rest) = if separates byte then byte ∷ rest else from_end separates rest

-- past one byte of IFS where the text begins with one, and the white space behind it
abbrev pub past_ender : (ℕ → Bool) → List ℕ → List ℕ
past_ender separates [] = []
past_ender separates (byte ∷ rest) = if separates byte then past_white separates rest else byte ∷ rest

-- where the next field begins: past white space, and one other byte of IFS with the white space behind it
abbrev pub next_field : (ℕ → Bool) → List ℕ → List ℕ
next_field separates text = past_ender separates (past_white separates (from_end separates text))

-- the fields of a text for one name and so many before it
abbrev pub fields_from : (ℕ → Bool) → List ℕ → ℕ → List (List ℕ)
fields_from separates text zero = before_white separates text ∷ []
fields_from separates text (suc more) = field_of separates text ∷ fields_from separates (next_field separates text) more

abbrev pub fields_by : (ℕ → Bool) → List ℕ → ℕ → List (List ℕ)
fields_by separates line names = fields_from separates (past_white separates line) (names - 1)

-- the fields of a line for so many names, by the bytes of IFS
abbrev pub fields_read : List ℕ → List ℕ → ℕ → List (List ℕ)
fields_read ifs line names = fields_by (is_in ifs) line names

-- the text begins with such a byte
abbrev pub begins : (ℕ → Bool) → List ℕ → Bool
begins test [] = false
begins test (byte ∷ rest) = test byte

-- the inner text is the whole one without the bytes at its ends that pass the test
pub record IsTrimmed (test : ℕ → Bool) (text inner : List ℕ) : Type 0 where
  pub front : List ℕ
  pub back : List ℕ
  pub whole : text ≡ front ++ (inner ++ back)
  pub in_front : list_all test front ≡ true
  pub at_back : list_all test back ≡ true
  pub first : begins test inner ≡ false
  pub last : begins test (reverse inner) ≡ false
