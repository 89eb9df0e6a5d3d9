-- The bytes of a string of tr, each with whether a backslash stood before it (XCU tr; own: another escaped byte is itself, and so is a
-- backslash at the end). The code goes from byte to byte.
use Rattle.std.specs.Prelude.{ℕ, ◌+◌, ◌*◌, ◌%◌, List, [], ◌∷◌, ◌++◌, Bool, true, false, ◌&&◌, ◌==◌, nat_le, Option, Some, None, option_map, if◌then◌else◌}
use Rattle.ut_strings.specs.declared.marked.Marked.{Marked}
use Rattle.ut_strings.specs.declared.marked.State.{State}
use Rattle.ut_strings.specs.declared.marked.State.TheVariants as state

abbrev pub backslash : ℕ
backslash = 92

-- the byte that an escape of one letter stands for, else the letter itself
abbrev pub letter_of : ℕ → ℕ
letter_of byte =
    if byte == 97 then 7 else
    if byte == 98 then 8 else
    if byte == 102 then 12 else
    if byte == 110 then 10 else
    if byte == 114 then 13 else
    if byte == 116 then 9 else
    if byte == 118 then 11 else
    byte

abbrev pub is_octal : ℕ → Bool
is_octal byte = nat_le 48 byte && nat_le byte 55

-- the numbers of one, two and three octal digits: the digit of a byte is what is left of it by 8, since that of 0 is 48
abbrev pub number_of_one : ℕ → ℕ
number_of_one first = first % 8

abbrev pub number_of_two : ℕ → ℕ → ℕ
number_of_two first second = (first % 8) * 8 + second % 8

abbrev pub number_of_three : ℕ → ℕ → ℕ → ℕ
number_of_three first second third = (first % 8) * 64 + (second % 8) * 8 + third % 8

-- one marked byte
abbrev pub escaped : ℕ → List Marked
escaped byte = record { byte = byte; escaped = true } ∷ []

abbrev pub plain : ℕ → List Marked
plain byte = record { byte = byte; escaped = false } ∷ []

-- what a byte gives that no escape takes, and what stands then before the next
abbrev pub plain_given : ℕ → List Marked
plain_given byte = if byte == backslash then [] else plain byte

abbrev pub plain_state : ℕ → State
plain_state byte = if byte == backslash then state.Backslash else state.Plain

-- what one byte gives, by what stands before it: the longest run of up to three octal digits is one number
abbrev pub byte_given : State → ℕ → List Marked
byte_given state.Plain byte = plain_given byte
byte_given state.Backslash byte = if is_octal byte then [] else escaped (letter_of byte)
byte_given (state.One first) byte = if is_octal byte then [] else escaped (number_of_one first) ++ plain_given byte
byte_given (state.Two first second) byte =
    if is_octal byte then escaped (number_of_three first second byte) else escaped (number_of_two first second) ++ plain_given byte

-- what stands before the next byte; none where a number is above 255
abbrev pub byte_state : State → ℕ → Option State
byte_state state.Plain byte = Some (plain_state byte)
byte_state state.Backslash byte = Some (if is_octal byte then state.One byte else state.Plain)
byte_state (state.One first) byte = Some (if is_octal byte then state.Two first byte else plain_state byte)
byte_state (state.Two first second) byte =
    if is_octal byte then (if nat_le (number_of_three first second byte) 255 then Some state.Plain else None) else Some (plain_state byte)

-- what the end of the text gives
abbrev pub end_given : State → List Marked
end_given state.Plain = []
end_given state.Backslash = escaped backslash
end_given (state.One first) = escaped (number_of_one first)
end_given (state.Two first second) = escaped (number_of_two first second)

-- bytes in front of what is read
abbrev pub behind : List Marked → Option (List Marked) → Option (List Marked)
behind bytes rest = option_map (λ others. bytes ++ others) rest

abbrev pub on_state : Option State → (State → Option (List Marked)) → Option (List Marked)
on_state None on = None
on_state (Some next) on = on next

-- the bytes of a text, by what stands before it
abbrev pub marked_from : State → List ℕ → Option (List Marked)
marked_from before [] = Some (end_given before)
marked_from before (byte ∷ rest) = behind (byte_given before byte) (on_state (byte_state before byte) (λ next. marked_from next rest))

-- the bytes of a string
abbrev pub marked_of : List ℕ → Option (List Marked)
marked_of text = marked_from state.Plain text
