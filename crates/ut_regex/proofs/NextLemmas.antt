-- Where pieces may stand.
use Rattle.std.proofs.Common.{ℕ, ◌≡◌, ◌==◌, ◌&&◌, Option, Some, None, nat_le, Bool, true, false, cond, List, [], ◌∷◌, refl, sym, subst}
use Rattle.ut_regex.specs.declared.fault.ReFault.{ReFault}
use Rattle.ut_regex.specs.declared.fault.ReFault.TheVariants.{NotARegex, BackReference, RepeatTooLarge, TooLarge, Memory}
use Rattle.ut_regex.specs.declared.pieces.Before.{Before}
use Rattle.ut_regex.specs.declared.pieces.Sign.{Sign}
use Rattle.ut_regex.specs.declared.pieces.Sign.TheVariants as sign
use Rattle.ut_regex.specs.declared.pieces.Escaped.{Escaped}
use Rattle.ut_regex.specs.declared.pieces.Escaped.TheVariants as escaped
use Rattle.ut_regex.specs.declared.pieces.Piece.TheVariants as piece
use Rattle.ut_regex.specs.declared.tree.Bounds.{Bounds}
use Rattle.ut_regex.specs.Pieces.{Next, itself, any, bracketed, line_begins, line_ends, opens, closes, bars, repeats, counted, refused, is_part, is_side, is_start, sign_of, escaped_of, dollar, basic_escaped, basic_escape, basic_next, extended_escaped, extended_escape, extended_next, next, IsPiece, IsNoPiece}
use Rattle.ut_regex.specs.Intervals.{Bound, bound, no_bound, bound_of, begins_digit, number_from, behind_digits, Interval, bounds, no_bounds, is_ordered, ended, second_bound, behind_brace, behind_bound, first_bound}
use Rattle.std.proofs.Common.{inl, inr}
use Rattle.ut_regex.proofs.CoreLemmas.{and_first}

-- a closing stands in a group, and a repetition behind a part
abbrev Allowed : Before → Bool → Next → Type 0
Allowed last nested (itself byte rest) = Unit {0}
Allowed last nested (any rest) = Unit {0}
Allowed last nested (bracketed rest) = Unit {0}
Allowed last nested (line_begins rest) = Unit {0}
Allowed last nested (line_ends rest) = Unit {0}
Allowed last nested (opens rest) = Unit {0}
Allowed last nested (closes rest) = nested ≡ true
Allowed last nested (bars rest) = Unit {0}
Allowed last nested (repeats low high rest) = is_part last ≡ true
Allowed last nested (counted rest) = is_part last ≡ true
Allowed last nested (refused fault) = Unit {0}

allowed_if : (last : Before) (nested may : Bool) (there other : Next) → (may ≡ true → Allowed last nested there) → Allowed last nested other
    → Allowed last nested (cond may there other)
allowed_if last nested true there other is els = is refl
allowed_if last nested false there other is els = els

dollar_allowed : (last : Before) (nested : Bool) (byte : ℕ) (rest : List ℕ) → Allowed last nested (dollar byte rest)
dollar_allowed last nested byte [] = tt
dollar_allowed last nested byte (second ∷ rest) = tt

basic_escaped_allowed : (last : Before) (nested : Bool) (e : Escaped) (byte : ℕ) (rest : List ℕ) → Allowed last nested (basic_escaped last nested e byte rest)
basic_escaped_allowed last nested escaped.Open byte rest = tt
basic_escaped_allowed last nested escaped.Close byte rest = allowed_if last nested nested (closes rest) (refused NotARegex) (λ h. h) tt
basic_escaped_allowed last nested escaped.Brace byte rest = allowed_if last nested (is_part last) (counted rest) (refused NotARegex) (λ h. h) tt
basic_escaped_allowed last nested escaped.Reference byte rest = tt
basic_escaped_allowed last nested escaped.Refused byte rest = tt
basic_escaped_allowed last nested escaped.Plain byte rest = tt

basic_escape_allowed : (last : Before) (nested : Bool) (text : List ℕ) → Allowed last nested (basic_escape last nested text)
basic_escape_allowed last nested [] = tt
basic_escape_allowed last nested (byte ∷ rest) = basic_escaped_allowed last nested (escaped_of byte) byte rest

basic_allowed : (last : Before) (nested : Bool) (s : Sign) (byte : ℕ) (rest : List ℕ) → Allowed last nested (basic_next last nested s byte rest)
basic_allowed last nested sign.Dot byte rest = tt
basic_allowed last nested sign.Bracket byte rest = tt
basic_allowed last nested sign.Backslash byte rest = basic_escape_allowed last nested rest
basic_allowed last nested sign.Star byte rest = allowed_if last nested (is_part last) _ (itself byte rest) (λ h. h) tt
basic_allowed last nested sign.Caret byte rest = allowed_if last nested (is_start last) (line_begins rest) (itself byte rest) (λ h. tt) tt
basic_allowed last nested sign.Dollar byte rest = dollar_allowed last nested byte rest
basic_allowed last nested sign.Open byte rest = tt
basic_allowed last nested sign.Close byte rest = tt
basic_allowed last nested sign.Bar byte rest = tt
basic_allowed last nested sign.Plus byte rest = tt
basic_allowed last nested sign.Question byte rest = tt
basic_allowed last nested sign.Brace byte rest = tt
basic_allowed last nested sign.Other byte rest = tt

extended_escaped_allowed : (last : Before) (nested : Bool) (e : Escaped) (byte : ℕ) (rest : List ℕ) → Allowed last nested (extended_escaped e byte rest)
extended_escaped_allowed last nested escaped.Open byte rest = tt
extended_escaped_allowed last nested escaped.Close byte rest = tt
extended_escaped_allowed last nested escaped.Brace byte rest = tt
extended_escaped_allowed last nested escaped.Reference byte rest = tt
extended_escaped_allowed last nested escaped.Refused byte rest = tt
extended_escaped_allowed last nested escaped.Plain byte rest = tt

extended_escape_allowed : (last : Before) (nested : Bool) (text : List ℕ) → Allowed last nested (extended_escape text)
extended_escape_allowed last nested [] = tt
extended_escape_allowed last nested (byte ∷ rest) = extended_escaped_allowed last nested (escaped_of byte) byte rest

extended_allowed : (last : Before) (nested : Bool) (s : Sign) (byte : ℕ) (rest : List ℕ) → Allowed last nested (extended_next last nested s byte rest)
extended_allowed last nested sign.Dot byte rest = tt
extended_allowed last nested sign.Bracket byte rest = tt
extended_allowed last nested sign.Backslash byte rest = extended_escape_allowed last nested rest
extended_allowed last nested sign.Caret byte rest = tt
extended_allowed last nested sign.Dollar byte rest = tt
extended_allowed last nested sign.Open byte rest = tt
extended_allowed last nested sign.Close byte rest =
    allowed_if last nested (nested && is_side last) (closes rest) (refused NotARegex) (and_first nested (is_side last)) tt
extended_allowed last nested sign.Bar byte rest = allowed_if last nested (is_side last) (bars rest) (refused NotARegex) (λ h. tt) tt
extended_allowed last nested sign.Star byte rest = allowed_if last nested (is_part last) _ (refused NotARegex) (λ h. h) tt
extended_allowed last nested sign.Plus byte rest = allowed_if last nested (is_part last) _ (refused NotARegex) (λ h. h) tt
extended_allowed last nested sign.Question byte rest = allowed_if last nested (is_part last) _ (refused NotARegex) (λ h. h) tt
extended_allowed last nested sign.Brace byte rest = allowed_if last nested (is_part last) (counted rest) (refused NotARegex) (λ h. h) tt
extended_allowed last nested sign.Other byte rest = tt

next_allowed : (basic : Bool) (last : Before) (nested : Bool) (text : List ℕ) → Allowed last nested (next basic last nested text)
next_allowed true last nested [] = tt
next_allowed false last nested [] = tt
next_allowed true last nested (byte ∷ rest) = basic_allowed last nested (sign_of byte) byte rest
next_allowed false last nested (byte ∷ rest) = extended_allowed last nested (sign_of byte) byte rest

-- a group closes only where one is open
pub closes_nested : (basic : Bool) (last : Before) (nested : Bool) (text rest : List ℕ)
    → IsPiece basic (next basic last nested text) piece.Close rest → nested ≡ true
closes_nested basic last nested text rest is = subst (Allowed last nested) is (next_allowed basic last nested text)

-- what is repeated is a part
pub repeats_part : (basic : Bool) (last : Before) (nested : Bool) (text rest : List ℕ) (limits : Bounds)
    → IsPiece basic (next basic last nested text) (piece.Repeat limits) rest → is_part last ≡ true
repeats_part basic last nested text rest limits (inl is) = subst (Allowed last nested) is (next_allowed basic last nested text)
repeats_part basic last nested text rest limits (inr (there, is, _)) = subst (Allowed last nested) is (next_allowed basic last nested text)

-- a fault that a text may have where it stands
abbrev pub IsFault : ReFault → Type 0
IsFault NotARegex = Unit {0}
IsFault BackReference = Unit {0}
IsFault RepeatTooLarge = Unit {0}
IsFault TooLarge = ⊥
IsFault Memory = ⊥

abbrev Told : Next → Type 0
Told (itself byte rest) = Unit {0}
Told (any rest) = Unit {0}
Told (bracketed rest) = Unit {0}
Told (line_begins rest) = Unit {0}
Told (line_ends rest) = Unit {0}
Told (opens rest) = Unit {0}
Told (closes rest) = Unit {0}
Told (bars rest) = Unit {0}
Told (repeats low high rest) = Unit {0}
Told (counted rest) = Unit {0}
Told (refused fault) = IsFault fault

told_if : (may : Bool) (there other : Next) → Told there → Told other → Told (cond may there other)
told_if true there other is els = is
told_if false there other is els = els

dollar_told : (byte : ℕ) (rest : List ℕ) → Told (dollar byte rest)
dollar_told byte [] = tt
dollar_told byte (second ∷ rest) = tt

basic_escaped_told : (last : Before) (nested : Bool) (e : Escaped) (byte : ℕ) (rest : List ℕ) → Told (basic_escaped last nested e byte rest)
basic_escaped_told last nested escaped.Open byte rest = tt
basic_escaped_told last nested escaped.Close byte rest = told_if nested (closes rest) (refused NotARegex) tt tt
basic_escaped_told last nested escaped.Brace byte rest = told_if (is_part last) (counted rest) (refused NotARegex) tt tt
basic_escaped_told last nested escaped.Reference byte rest = tt
basic_escaped_told last nested escaped.Refused byte rest = tt
basic_escaped_told last nested escaped.Plain byte rest = tt

basic_escape_told : (last : Before) (nested : Bool) (text : List ℕ) → Told (basic_escape last nested text)
basic_escape_told last nested [] = tt
basic_escape_told last nested (byte ∷ rest) = basic_escaped_told last nested (escaped_of byte) byte rest

basic_told : (last : Before) (nested : Bool) (s : Sign) (byte : ℕ) (rest : List ℕ) → Told (basic_next last nested s byte rest)
basic_told last nested sign.Dot byte rest = tt
basic_told last nested sign.Bracket byte rest = tt
basic_told last nested sign.Backslash byte rest = basic_escape_told last nested rest
basic_told last nested sign.Star byte rest = told_if (is_part last) _ (itself byte rest) tt tt
basic_told last nested sign.Caret byte rest = told_if (is_start last) (line_begins rest) (itself byte rest) tt tt
basic_told last nested sign.Dollar byte rest = dollar_told byte rest
basic_told last nested sign.Open byte rest = tt
basic_told last nested sign.Close byte rest = tt
basic_told last nested sign.Bar byte rest = tt
basic_told last nested sign.Plus byte rest = tt
basic_told last nested sign.Question byte rest = tt
basic_told last nested sign.Brace byte rest = tt
basic_told last nested sign.Other byte rest = tt

extended_escaped_told : (e : Escaped) (byte : ℕ) (rest : List ℕ) → Told (extended_escaped e byte rest)
extended_escaped_told escaped.Open byte rest = tt
extended_escaped_told escaped.Close byte rest = tt
extended_escaped_told escaped.Brace byte rest = tt
extended_escaped_told escaped.Reference byte rest = tt
extended_escaped_told escaped.Refused byte rest = tt
extended_escaped_told escaped.Plain byte rest = tt

extended_escape_told : (text : List ℕ) → Told (extended_escape text)
extended_escape_told [] = tt
extended_escape_told (byte ∷ rest) = extended_escaped_told (escaped_of byte) byte rest

extended_told : (last : Before) (nested : Bool) (s : Sign) (byte : ℕ) (rest : List ℕ) → Told (extended_next last nested s byte rest)
extended_told last nested sign.Dot byte rest = tt
extended_told last nested sign.Bracket byte rest = tt
extended_told last nested sign.Backslash byte rest = extended_escape_told rest
extended_told last nested sign.Caret byte rest = tt
extended_told last nested sign.Dollar byte rest = tt
extended_told last nested sign.Open byte rest = tt
extended_told last nested sign.Close byte rest = told_if (nested && is_side last) (closes rest) (refused NotARegex) tt tt
extended_told last nested sign.Bar byte rest = told_if (is_side last) (bars rest) (refused NotARegex) tt tt
extended_told last nested sign.Star byte rest = told_if (is_part last) _ (refused NotARegex) tt tt
extended_told last nested sign.Plus byte rest = told_if (is_part last) _ (refused NotARegex) tt tt
extended_told last nested sign.Question byte rest = told_if (is_part last) _ (refused NotARegex) tt tt
extended_told last nested sign.Brace byte rest = told_if (is_part last) (counted rest) (refused NotARegex) tt tt
extended_told last nested sign.Other byte rest = tt

next_told : (basic : Bool) (last : Before) (nested : Bool) (text : List ℕ) → Told (next basic last nested text)
next_told true last nested [] = tt
next_told false last nested [] = tt
next_told true last nested (byte ∷ rest) = basic_told last nested (sign_of byte) byte rest
next_told false last nested (byte ∷ rest) = extended_told last nested (sign_of byte) byte rest

-- the fault of an interval
abbrev Untold : Interval → Type 0
Untold (bounds low high rest) = Unit {0}
Untold (no_bounds fault) = IsFault fault

abbrev Unbound : Bound → Type 0
Unbound (bound number rest) = Unit {0}
Unbound (no_bound fault) = IsFault fault

bound_told : (text : List ℕ) → Unbound (bound_of text)
bound_told text = told_at (begins_digit text) (nat_le (number_from 0 text) 255)
  where
    told_at : (digit fits : Bool) → Unbound (cond digit (cond fits (bound (number_from 0 text) (behind_digits text)) (no_bound RepeatTooLarge)) (no_bound NotARegex))
    told_at true true = tt
    told_at true false = tt
    told_at false fits = tt

ended_told : (low : ℕ) (high : Option ℕ) (rest : Option (List ℕ)) → Untold (ended low high rest)
ended_told low high None = tt
ended_told low high (Some rest) = told_at (is_ordered low high)
  where
    told_at : (ordered : Bool) → Untold (cond ordered (bounds low high rest) (no_bounds NotARegex))
    told_at true = tt
    told_at false = tt

second_told : (basic : Bool) (low : ℕ) (second : Bound) → Unbound second → Untold (second_bound basic low second)
second_told basic low (bound high rest) told = ended_told low (Some high) (behind_brace basic rest)
second_told basic low (no_bound fault) told = told

behind_told : (basic : Bool) (low : ℕ) (text : List ℕ) → Untold (behind_bound basic low text)
behind_told basic low [] = tt
behind_told basic low (first ∷ rest) = told_at (first == 44) (begins_digit rest)
  where
    told_at : (comma digit : Bool) → Untold (cond comma (cond digit (second_bound basic low (bound_of rest)) (ended low None (behind_brace basic rest))) (ended low (Some low) (behind_brace basic (first ∷ rest))))
    told_at true true = second_told basic low (bound_of rest) (bound_told rest)
    told_at true false = ended_told low None (behind_brace basic rest)
    told_at false digit = ended_told low (Some low) (behind_brace basic (first ∷ rest))

first_told : (basic : Bool) (first : Bound) → Unbound first → Untold (first_bound basic first)
first_told basic (bound low rest) told = behind_told basic low rest
first_told basic (no_bound fault) told = told

-- what is no piece has a fault of its own
pub piece_fault : (basic : Bool) (last : Before) (nested : Bool) (text : List ℕ) (fault : ReFault)
    → IsNoPiece basic (next basic last nested text) fault → IsFault fault
piece_fault basic last nested text fault (inl is) = subst Told is (next_told basic last nested text)
piece_fault basic last nested text fault (inr (inl (there, is, none, told))) = subst IsFault (sym told) tt
piece_fault basic last nested text fault (inr (inr (there, is, none))) = subst Untold none (first_told basic (bound_of there) (bound_told there))
