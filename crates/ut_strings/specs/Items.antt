-- The items of a string of tr, read at its beginning (XCU tr): a repetition in the second string, else a class, else a range, else one byte.
-- The code looks at each place once.
use Rattle.std.specs.Prelude.{ℕ, ◌+◌, ◌*◌, ◌-◌, List, [], ◌∷◌, Bool, true, false, not, ◌&&◌, ◌==◌, nat_le, Option, Some, None, option_map, length, map, take, if◌then◌else◌}
use Rattle.std.specs.List.{list_all}
use Rattle.std.specs.Char.{is_ascii_digit}
use Rattle.ps_lines.specs.declared.class.Class.{Class}
use Rattle.ps_lines.specs.Classes.{class_named}
use Rattle.ut_strings.specs.Marked.{is_octal}
use Rattle.ut_strings.specs.declared.marked.Marked.{Marked}
use Rattle.ut_strings.specs.declared.items.Item.{Item}
use Rattle.ut_strings.specs.declared.items.Item.TheVariants as item
use Rattle.ut_strings.specs.declared.items.Piece.{Piece}

-- an item with so many marked bytes behind its first
abbrev pub piece : Item → ℕ → Piece
piece one extra = record { item = one; extra = extra }

-- this byte, and no backslash before it
abbrev pub is_plain : ℕ → Marked → Bool
is_plain byte one = not one.escaped && one.byte == byte

-- the first of the marked bytes is plainly this one
abbrev pub begins_with : ℕ → List Marked → Bool
begins_with byte [] = false
begins_with byte (one ∷ rest) = is_plain byte one

-- a range from the byte before a hyphen to that behind it, or the byte alone
abbrev pub range_with : ℕ → List Marked → Piece
range_with from [] = piece (item.Byte from) 0
range_with from (hyphen ∷ []) = piece (item.Byte from) 0
range_with from (hyphen ∷ last ∷ rest) =
    if is_plain 45 hyphen then (if nat_le from last.byte then piece (item.Range from last.byte) 2 else piece item.Fault 0)
    else piece (item.Byte from) 0

-- how many bytes stand before the first that is plainly `mark` with a `]` behind it
abbrev pub one_more : Option ℕ → Option ℕ
one_more count = option_map (λ number. number + 1) count

unfoldable pub closes : ℕ → Marked → List Marked → Bool
closes mark one rest = is_plain mark one && begins_with 93 rest

abbrev pub count_before : ℕ → List Marked → Option ℕ
count_before mark [] = None
count_before mark (one ∷ rest) = if closes mark one rest then Some 0 else one_more (count_before mark rest)

-- the bytes without their marks
abbrev pub bytes_of : List Marked → List ℕ
bytes_of marked = map (λ (one : Marked). one.byte) marked

-- the class of a name, which has to be one
abbrev pub class_item : Option Class → Item
class_item None = item.Fault
class_item (Some class) = item.Class class

-- a class `[:name:]` and an equivalence class `[=byte=]`, which no string may have, by what stands behind their second byte; where nothing
-- ends them they are ordinary
abbrev pub class_with : Option ℕ → List Marked → List Marked → Piece
class_with None behind rest = range_with 91 rest
class_with (Some count) behind rest = piece (class_item (class_named (bytes_of (take count behind)))) (count + 3)

abbrev pub equivalence_with : Option ℕ → List Marked → Piece
equivalence_with None rest = range_with 91 rest
equivalence_with (Some count) rest = piece item.Fault 0

-- what stands behind a plain `[`, where it begins no repetition
abbrev pub bracket_with : List Marked → Piece
bracket_with [] = range_with 91 []
bracket_with (one ∷ behind) =
    if is_plain 58 one then class_with (count_before 58 behind) behind (one ∷ behind) else
    if is_plain 61 one then equivalence_with (count_before 61 behind) (one ∷ behind) else
    range_with 91 (one ∷ behind)

-- the plain digits that marked bytes begin with, and what stands behind them
abbrev pub is_plain_digit : Marked → Bool
is_plain_digit one = not one.escaped && is_ascii_digit one.byte

abbrev pub digits_front : List Marked → List ℕ
digits_front [] = []
digits_front (one ∷ rest) = if is_plain_digit one then one.byte ∷ digits_front rest else []

abbrev pub behind_digits : List Marked → List Marked
behind_digits [] = []
behind_digits (one ∷ rest) = if is_plain_digit one then behind_digits rest else one ∷ rest

-- a number of digits in a base, or the least above every length that a string may have, where it is above them
abbrev pub digit_onto : ℕ → ℕ → ℕ → ℕ
digit_onto base number digit = if nat_le (number * base + (digit - 48)) 65536 then number * base + (digit - 48) else 65537

abbrev pub number_onto : ℕ → ℕ → List ℕ → ℕ
number_onto base number [] = number
number_onto base number (digit ∷ rest) = number_onto base (digit_onto base number digit) rest

-- so many times a byte: none and 0 fill, a first 0 means an octal number
abbrev pub times : ℕ → ℕ → Item
times byte number =
    if number == 0 then item.Fill byte else
    if nat_le number 65536 then item.Repeat byte number else
    item.Fault

abbrev pub repeated : ℕ → List ℕ → Item
repeated byte [] = item.Fill byte
repeated byte (digit ∷ rest) =
    if digit == 48 then (if list_all is_octal rest then times byte (number_onto 8 0 rest) else item.Fault)
    else times byte (number_onto 10 0 (digit ∷ rest))

-- a repetition `[byte*digits]`, by what stands behind its `[`
abbrev pub repetition_with : ℕ → List ℕ → List Marked → Option Piece
repetition_with byte digits behind =
    if begins_with 93 behind then Some (piece (repeated byte digits) (length digits + 3)) else None

abbrev pub repetition_at : List Marked → Option Piece
repetition_at [] = None
repetition_at (one ∷ []) = None
repetition_at (one ∷ star ∷ rest) = if is_plain 42 star then repetition_with one.byte (digits_front rest) (behind_digits rest) else None

abbrev pub or_bracket : Option Piece → List Marked → Piece
or_bracket None rest = bracket_with rest
or_bracket (Some found) rest = found

-- the item that a byte and those behind it begin with; repetitions stand in the second string alone
abbrev pub item_at : Bool → Marked → List Marked → Piece
item_at second one rest =
    if is_plain 91 one then (if second then or_bracket (repetition_at rest) rest else bracket_with rest)
    else range_with one.byte rest
