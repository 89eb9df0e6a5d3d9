-- The number that is kept beside a line, so that most comparisons look at no line: the first bytes of its first key and how many it has, or
-- how large a number the key is. Where it is less, the line is before the other. Where it is the same and exact, the keys are equal.
use Rattle.std.specs.Prelude.{ℕ, zero, suc, ◌+◌, ◌*◌, ◌-◌, ◌%◌, ◌<◌, ◌≤◌, ◌==◌, ◌&&◌, ⊤, List, [], ◌∷◌, length, min, nat_lt, Bool, true, false, not, Option, Some, None, if◌then◌else◌}
use Rattle.ut_args.specs.declared.Key.{Key}
use Rattle.ut_args.specs.declared.KeyEnd.{KeyEnd}
use Rattle.ut_args.specs.declared.Ordering.{Ordering as Letters}
use Rattle.ut_sort.specs.Numbers.{above_zero, behind_first, below_zero, fraction, whole}
use Rattle.ut_sort.specs.Keys.{folded, key_in, letters_of}
use Rattle.ut_sort.specs.declared.prefixes.TheConstants.{LEAST_LARGE, MIDDLE, TOO_LARGE}

abbrev pub first_byte : List ℕ → ℕ
first_byte [] = 0
first_byte (byte ∷ rest) = byte

-- so many bytes behind a number, zeros behind the text's end
abbrev pub prefix_after : ℕ → ℕ → List ℕ → ℕ
prefix_after zero number text = number
prefix_after (suc count) number text = prefix_after count (number * 256 + first_byte text) (behind_first text)

-- the same, and behind it how many bytes the text has, or one more than these
abbrev pub packed : ℕ → ℕ → ℕ → List ℕ → ℕ
packed count base number text = prefix_after count number text * base + min (length text) (suc count)

-- a text: its first seven bytes
unfoldable pub prefix : List ℕ → ℕ
prefix text = prefix_after 6 (first_byte text) (behind_first text)

abbrev pub text_number : List ℕ → ℕ
text_number text = prefix text * 256 + min (length text) 8

-- a number without a sign: its whole and two digits of its fraction; none that is as large says more
abbrev pub size_number : List ℕ → ℕ
size_number text = if nat_lt (whole text) LEAST_LARGE then packed 2 4 (whole text) (fraction text) else TOO_LARGE

-- a number: zero is in the middle
abbrev pub value_number : List ℕ → ℕ
value_number text = (MIDDLE + size_number (above_zero text)) - size_number (below_zero text)

-- the text of a key as it is compared, if it isn't by its number
abbrev pub compared : Bool → List ℕ → List ℕ
compared fold text = if fold then folded text else text

abbrev pub letters_number : Letters → List ℕ → ℕ
letters_number letters text = if letters.numeric then value_number text else text_number (compared letters.fold text)

abbrev pub directed_number : Bool → ℕ → ℕ
directed_number reverse number = if reverse then 18446744073709551615 - number else number

abbrev pub key_number : Option ℕ → Key → List ℕ → ℕ
key_number separator key line = directed_number (letters_of key).reverse (letters_number (letters_of key) (key_in separator key line))

abbrev pub keys_number : Option ℕ → List Key → List ℕ → ℕ
keys_number separator [] line = 0
keys_number separator (key ∷ others) line = key_number separator key line

-- how far a number lies from zero
abbrev pub distance : ℕ → ℕ
distance number = (number - MIDDLE) + (MIDDLE - number)

-- the number says all of the key: no more than seven bytes, or two digits of a fraction
abbrev pub is_exact : Letters → ℕ → Bool
is_exact letters number =
    if letters.numeric then nat_lt (distance (directed_number letters.reverse number) % 4) 3
    else nat_lt (directed_number letters.reverse number % 256) 8

abbrev pub no_letters : Letters
no_letters = record { blanks = false; fold = false; numeric = false; reverse = false }

abbrev pub first_letters : List Key → Letters
first_letters [] = no_letters
first_letters (key ∷ others) = letters_of key

-- a key is the whole line as it stands
abbrev pub is_line_start : KeyEnd → Bool
is_line_start start = (start.field == 1) && ((start.byte == 1) && not start.letters.blanks)

abbrev pub is_as_it_stands : Letters → Bool
is_as_it_stands letters = not letters.fold && not letters.numeric

abbrev pub has_no_end : Option KeyEnd → Bool
has_no_end None = true
has_no_end (Some end) = false

abbrev pub is_whole_key : Key → Bool
is_whole_key key = is_line_start key.start && (has_no_end key.end && is_as_it_stands key.start.letters)

abbrev pub begins_whole : List Key → Bool
begins_whole [] = false
begins_whole (key ∷ others) = is_whole_key key

-- all are bytes; those of the first key are, and its number isn't too large
abbrev pub AreBytes : List ℕ → Type 0
AreBytes [] = ⊤
AreBytes (byte ∷ rest) = (byte < 256) × AreBytes rest

pub record IsKey (separator : Option ℕ) (key : Key) (line : List ℕ) : Type 0 where
  pub bytes : AreBytes (key_in separator key line)
  pub small : letters_number (letters_of key) (key_in separator key line) ≤ 18446744073709551615

abbrev pub FirstKey : Option ℕ → List Key → List ℕ → Type 0
FirstKey separator [] line = ⊤
FirstKey separator (key ∷ others) line = IsKey separator key line
