-- Intervals (XBD 9.3.6, 9.4.6). Own: a bound above 255 is told where it stands; whatever else is wrong makes the text no
-- expression.
use Rattle.std.specs.Prelude.{ℕ, ◌+◌, ◌-◌, ◌*◌, ◌==◌, ◌&&◌, Bool, true, false, List, [], ◌∷◌, Option, Some, None, nat_le, if◌then◌else◌}
use Rattle.ut_regex.specs.declared.fault.ReFault.{ReFault}
use Rattle.ut_regex.specs.declared.fault.ReFault.TheVariants.{NotARegex, RepeatTooLarge}
use Rattle.ut_regex.specs.Spans.{is_from}

-- the text begins with a digit
abbrev pub begins_digit : List ℕ → Bool
begins_digit [] = false
begins_digit (first ∷ rest) = is_from 48 57 first

-- the number that the digits at the text's beginning make behind those that were read
abbrev pub number_from : ℕ → List ℕ → ℕ
number_from before [] = before
number_from before (first ∷ rest) = if is_from 48 57 first then number_from (10 * before + (first - 48)) rest else before

-- what is behind the digits
abbrev pub behind_digits : List ℕ → List ℕ
behind_digits [] = []
behind_digits (first ∷ rest) = if is_from 48 57 first then behind_digits rest else first ∷ rest

-- a bound of a repetition with what is left, or why there is none
pub data Bound : Type 0 where
  bound : ℕ → List ℕ → Bound
  no_bound : ReFault → Bound

abbrev pub bound_of : List ℕ → Bound
bound_of text =
    if begins_digit text then (if nat_le (number_from 0 text) 255 then bound (number_from 0 text) (behind_digits text) else no_bound RepeatTooLarge)
    else no_bound NotARegex

-- the bounds of a repetition with what is left, or why there are none
pub data Interval : Type 0 where
  bounds : ℕ → Option ℕ → List ℕ → Interval
  no_bounds : ReFault → Interval

-- what is behind the closing brace, in front of which basic expressions have a backslash
abbrev pub behind_brace : Bool → List ℕ → Option (List ℕ)
behind_brace basic [] = None
behind_brace false (first ∷ rest) = if first == 125 then Some rest else None
behind_brace true (first ∷ []) = None
behind_brace true (first ∷ second ∷ rest) = if first == 92 && second == 125 then Some rest else None

-- the greater bound isn't below the lesser
abbrev pub is_ordered : ℕ → Option ℕ → Bool
is_ordered low None = true
is_ordered low (Some high) = nat_le low high

-- the interval ends here
abbrev pub ended : ℕ → Option ℕ → Option (List ℕ) → Interval
ended low high None = no_bounds NotARegex
ended low high (Some rest) = if is_ordered low high then bounds low high rest else no_bounds NotARegex

-- behind the comma
abbrev pub second_bound : Bool → ℕ → Bound → Interval
second_bound basic low (no_bound fault) = no_bounds fault
second_bound basic low (bound high rest) = ended low (Some high) (behind_brace basic rest)

-- behind the first bound
abbrev pub behind_bound : Bool → ℕ → List ℕ → Interval
behind_bound basic low [] = no_bounds NotARegex
behind_bound basic low (first ∷ rest) =
    if first == 44 then (if begins_digit rest then second_bound basic low (bound_of rest) else ended low None (behind_brace basic rest))
    else ended low (Some low) (behind_brace basic (first ∷ rest))

abbrev pub first_bound : Bool → Bound → Interval
first_bound basic (no_bound fault) = no_bounds fault
first_bound basic (bound low rest) = behind_bound basic low rest

-- an interval, from its first bound on
abbrev pub interval : Bool → List ℕ → Interval
interval basic text = first_bound basic (bound_of text)
