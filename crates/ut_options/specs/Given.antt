-- What the options that words give say. The code goes from option to option; of an option given twice the last counts (own), and a
-- faulty argument is a fault wherever it stands.
use Rattle.std.specs.Prelude.{ℕ, List, [], ◌∷◌, Bool, ◌==◌, Option, Some, None, option_map, if◌then◌else◌}
use Rattle.std.specs.List.{list_any}
use Rattle.ut_options.specs.declared.given.Given.{Given}
use Rattle.ut_options.specs.Numbers.{option_number}
use Rattle.ut_options.specs.Rows.{is_among}

-- the letter is given, and one of the letters is
abbrev pub has : ℕ → List Given → Bool
has letter options = list_any (λ given. given.letter == letter) options

abbrev pub has_any : List ℕ → List Given → Bool
has_any letters options = list_any (λ given. is_among letters given.letter) options

-- the arguments of a letter, in order
abbrev pub arguments : ℕ → List Given → List (List ℕ)
arguments letter [] = []
arguments letter (given ∷ rest) = if given.letter == letter then given.argument ∷ arguments letter rest else arguments letter rest

-- what the last argument of a letter says, by what one says; else the fallback
abbrev pub and_on : {Value Next : Type 0} → Option Value → (Value → Option Next) → Option Next
and_on None on = None
and_on (Some value) on = on value

abbrev pub last_by : {Value : Type 0} → (List ℕ → Option Value) → ℕ → Value → List Given → Option Value
last_by says letter fallback [] = Some fallback
last_by says letter fallback (given ∷ rest) =
    if given.letter == letter then and_on (says given.argument) (λ value. last_by says letter value rest)
    else last_by says letter fallback rest

abbrev pub last_number : ℕ → ℕ → List Given → Option ℕ
last_number letter fallback options = last_by option_number letter fallback options

-- the byte that a text is
abbrev pub byte_of : List ℕ → Option ℕ
byte_of [] = None
byte_of (byte ∷ []) = Some byte
byte_of (byte ∷ another ∷ others) = None

-- what that byte is where one is given
abbrev pub last_byte : ℕ → Option ℕ → List Given → Option (Option ℕ)
last_byte letter fallback options = last_by (λ argument. option_map Some (byte_of argument)) letter fallback options

-- the one option of these letters, where it is the only one
abbrev pub only_of : List ℕ → List Given → Option Given
only_of letters [] = None
only_of letters (given ∷ rest) =
    if is_among letters given.letter then (if has_any letters rest then None else Some given) else only_of letters rest
