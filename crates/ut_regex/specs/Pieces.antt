-- The pieces of a text (XBD 9.3, 9.4): what each byte is where it stands.
use Rattle.std.specs.Prelude.{ℕ, ◌≡◌, ◌==◌, ◌&&◌, ◌||◌, ◌⊎◌, cond, Bool, true, false, List, [], ◌∷◌, Option, Some, None, if◌then◌else◌}
use Rattle.ut_regex.specs.declared.fault.ReFault.{ReFault}
use Rattle.ut_regex.specs.declared.fault.ReFault.TheVariants.{NotARegex, BackReference}
use Rattle.ut_regex.specs.declared.tree.Leaf.TheVariants.{Byte, Any, Among, NotAmong}
use Rattle.ut_regex.specs.declared.pieces.Before.{Before}
use Rattle.ut_regex.specs.declared.pieces.Before.TheVariants as before
use Rattle.ut_regex.specs.declared.pieces.Sign.{Sign}
use Rattle.ut_regex.specs.declared.pieces.Sign.TheVariants as sign
use Rattle.ut_regex.specs.declared.pieces.Escaped.{Escaped}
use Rattle.ut_regex.specs.declared.pieces.Escaped.TheVariants as escaped
use Rattle.ut_regex.specs.declared.pieces.Piece.{Piece}
use Rattle.ut_regex.specs.declared.pieces.Piece.TheVariants as piece
use Rattle.ut_regex.specs.Spans.{is_from}
use Rattle.ut_regex.specs.Brackets.{IsBracket, IsNoBracket}
use Rattle.ut_regex.specs.Intervals.{interval, bounds, no_bounds}

-- what a byte may be a sign of
unfoldable pub sign_of : ℕ → Sign
sign_of byte =
    if byte == 46 then sign.Dot
    else if byte == 91 then sign.Bracket
    else if byte == 92 then sign.Backslash
    else if byte == 42 then sign.Star
    else if byte == 94 then sign.Caret
    else if byte == 36 then sign.Dollar
    else if byte == 40 then sign.Open
    else if byte == 41 then sign.Close
    else if byte == 124 then sign.Bar
    else if byte == 43 then sign.Plus
    else if byte == 63 then sign.Question
    else if byte == 123 then sign.Brace
    else sign.Other

-- what a byte behind a backslash may be. Own: a letter and `0` are refused, and what is neither letter nor digit is itself
unfoldable pub escaped_of : ℕ → Escaped
escaped_of byte =
    if byte == 40 then escaped.Open
    else if byte == 41 then escaped.Close
    else if byte == 123 then escaped.Brace
    else if is_from 49 57 byte then escaped.Reference
    else if byte == 48 || is_from 65 90 byte || is_from 97 122 byte then escaped.Refused
    else escaped.Plain

-- what stands next, with the text behind it
pub data Next : Type 0 where
  itself : ℕ → List ℕ → Next
  any : List ℕ → Next
  bracketed : List ℕ → Next
  line_begins : List ℕ → Next
  line_ends : List ℕ → Next
  opens : List ℕ → Next
  closes : List ℕ → Next
  bars : List ℕ → Next
  repeats : ℕ → Option ℕ → List ℕ → Next
  counted : List ℕ → Next
  refused : ReFault → Next

-- there is a part to repeat
abbrev pub is_part : Before → Bool
is_part before.Start = false
is_part before.Opened = false
is_part before.Barred = false
is_part before.Anchor = false
is_part before.Part = true

-- nothing stands before
abbrev pub is_start : Before → Bool
is_start before.Start = true
is_start before.Opened = false
is_start before.Barred = false
is_start before.Anchor = false
is_start before.Part = false

-- a side of an alternative isn't empty
abbrev pub is_side : Before → Bool
is_side before.Start = false
is_side before.Opened = false
is_side before.Barred = false
is_side before.Anchor = true
is_side before.Part = true

-- a dollar at the text's end is an anchor of a basic expression
abbrev pub dollar : ℕ → List ℕ → Next
dollar byte [] = line_ends []
dollar byte (second ∷ rest) = itself byte (second ∷ rest)

-- behind a backslash of a basic expression (XBD 9.3.2, 9.3.3)
abbrev pub basic_escaped : Before → Bool → Escaped → ℕ → List ℕ → Next
basic_escaped last nested escaped.Open byte rest = opens rest
basic_escaped last nested escaped.Close byte rest = cond nested (closes rest) (refused NotARegex)
basic_escaped last nested escaped.Brace byte rest = cond (is_part last) (counted rest) (refused NotARegex)
basic_escaped last nested escaped.Reference byte rest = refused BackReference
basic_escaped last nested escaped.Refused byte rest = refused NotARegex
basic_escaped last nested escaped.Plain byte rest = itself byte rest

abbrev pub basic_escape : Before → Bool → List ℕ → Next
basic_escape last nested [] = refused NotARegex
basic_escape last nested (byte ∷ rest) = basic_escaped last nested (escaped_of byte) byte rest

-- what a sign is in a basic expression (XBD 9.3). A star without a part before it is itself, a circumflex is an anchor at the
-- text's beginning and a dollar at its end
abbrev pub basic_next : Before → Bool → Sign → ℕ → List ℕ → Next
basic_next last nested sign.Dot byte rest = any rest
basic_next last nested sign.Bracket byte rest = bracketed rest
basic_next last nested sign.Backslash byte rest = basic_escape last nested rest
basic_next last nested sign.Star byte rest = cond (is_part last) (repeats 0 None rest) (itself byte rest)
basic_next last nested sign.Caret byte rest = cond (is_start last) (line_begins rest) (itself byte rest)
basic_next last nested sign.Dollar byte rest = dollar byte rest
basic_next last nested sign.Open byte rest = itself byte rest
basic_next last nested sign.Close byte rest = itself byte rest
basic_next last nested sign.Bar byte rest = itself byte rest
basic_next last nested sign.Plus byte rest = itself byte rest
basic_next last nested sign.Question byte rest = itself byte rest
basic_next last nested sign.Brace byte rest = itself byte rest
basic_next last nested sign.Other byte rest = itself byte rest

-- behind a backslash of an extended expression (XBD 9.4.2)
abbrev pub extended_escaped : Escaped → ℕ → List ℕ → Next
extended_escaped escaped.Open byte rest = itself byte rest
extended_escaped escaped.Close byte rest = itself byte rest
extended_escaped escaped.Brace byte rest = itself byte rest
extended_escaped escaped.Reference byte rest = refused BackReference
extended_escaped escaped.Refused byte rest = refused NotARegex
extended_escaped escaped.Plain byte rest = itself byte rest

abbrev pub extended_escape : List ℕ → Next
extended_escape [] = refused NotARegex
extended_escape (byte ∷ rest) = extended_escaped (escaped_of byte) byte rest

-- what a sign is in an extended expression (XBD 9.4). Own: a repetition of nothing or of an anchor is refused, and an empty
-- side or group
abbrev pub extended_next : Before → Bool → Sign → ℕ → List ℕ → Next
extended_next last nested sign.Dot byte rest = any rest
extended_next last nested sign.Bracket byte rest = bracketed rest
extended_next last nested sign.Backslash byte rest = extended_escape rest
extended_next last nested sign.Star byte rest = cond (is_part last) (repeats 0 None rest) (refused NotARegex)
extended_next last nested sign.Caret byte rest = line_begins rest
extended_next last nested sign.Dollar byte rest = line_ends rest
extended_next last nested sign.Open byte rest = opens rest
extended_next last nested sign.Close byte rest = cond (nested && is_side last) (closes rest) (refused NotARegex)
extended_next last nested sign.Bar byte rest = cond (is_side last) (bars rest) (refused NotARegex)
extended_next last nested sign.Plus byte rest = cond (is_part last) (repeats 1 None rest) (refused NotARegex)
extended_next last nested sign.Question byte rest = cond (is_part last) (repeats 0 (Some 1) rest) (refused NotARegex)
extended_next last nested sign.Brace byte rest = cond (is_part last) (counted rest) (refused NotARegex)
extended_next last nested sign.Other byte rest = itself byte rest

-- what stands next in a basic or an extended expression, behind what stands before, and in a group or not
abbrev pub next : Bool → Before → Bool → List ℕ → Next
next basic last nested [] = refused NotARegex
next true last nested (byte ∷ rest) = basic_next last nested (sign_of byte) byte rest
next false last nested (byte ∷ rest) = extended_next last nested (sign_of byte) byte rest

-- it is this piece, with the text behind it
abbrev pub IsPiece : Bool → Next → Piece → List ℕ → Type 0
IsPiece basic there (piece.One (Byte byte)) rest = there ≡ itself byte rest
IsPiece basic there (piece.One Any) rest = there ≡ any rest
IsPiece basic there (piece.One (Among set)) rest = (text : List ℕ) × (there ≡ bracketed text) × IsBracket text (Among set) rest
IsPiece basic there (piece.One (NotAmong set)) rest = (text : List ℕ) × (there ≡ bracketed text) × IsBracket text (NotAmong set) rest
IsPiece basic there piece.Begin rest = there ≡ line_begins rest
IsPiece basic there piece.End rest = there ≡ line_ends rest
IsPiece basic there piece.Open rest = there ≡ opens rest
IsPiece basic there piece.Close rest = there ≡ closes rest
IsPiece basic there piece.Bar rest = there ≡ bars rest
IsPiece basic there (piece.Repeat limits) rest =
    (there ≡ repeats limits.low limits.high rest)
    ⊎ ((text : List ℕ) × (there ≡ counted text) × (interval basic text ≡ bounds limits.low limits.high rest))

-- it is no piece, and this is why
abbrev pub IsNoPiece : Bool → Next → ReFault → Type 0
IsNoPiece basic there fault =
    (there ≡ refused fault)
    ⊎ ((text : List ℕ) × (there ≡ bracketed text) × IsNoBracket text × (fault ≡ NotARegex))
    ⊎ ((text : List ℕ) × (there ≡ counted text) × (interval basic text ≡ no_bounds fault))
