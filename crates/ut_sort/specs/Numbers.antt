-- The numbers of `sort -n` (XCU sort, -n, without thousands separators): blanks, a minus sign or none, digits, and a point with digits
-- behind it or none. What isn't there is zero. A number has any length.
use Rattle.std.specs.Prelude.{ℕ, ◌==◌, ◌&&◌, List, [], ◌∷◌, Bool, false, if◌then◌else◌}
use Rattle.std.specs.declared.cmp.Ordering.{Ordering}
use Rattle.std.specs.Ordering.{nat_cmp, ordering_then}
use Rattle.std.specs.Cmp.Lexicographic.{slice_cmp}
use Rattle.std.specs.Str.Parse.{digits_value}
use Rattle.ps_lines.specs.Lines.{is_empty}
use Rattle.ut_args.specs.Keys.{digits_front, behind_digits}
use Rattle.ut_fields.specs.Fields.{behind_blanks}
use Rattle.ut_sort.specs.declared.numbers.TheConstants.{MINUS, POINT, ZERO}

-- the text begins with this byte
abbrev pub begins : ℕ → List ℕ → Bool
begins wanted [] = false
begins wanted (byte ∷ rest) = byte == wanted

abbrev pub behind_first : List ℕ → List ℕ
behind_first [] = []
behind_first (byte ∷ rest) = rest

-- the digits behind a point, without zeros at their end
abbrev pub without_end_zeros : List ℕ → List ℕ
without_end_zeros [] = []
without_end_zeros (digit ∷ digits) =
    if is_empty (without_end_zeros digits) && (digit == ZERO) then [] else digit ∷ without_end_zeros digits

-- how much the digits before the point say, and the digits behind it
abbrev pub whole : List ℕ → ℕ
whole text = digits_value 10 (digits_front text)

abbrev pub fraction_behind : List ℕ → List ℕ
fraction_behind rest = if begins POINT rest then without_end_zeros (digits_front (behind_first rest)) else []

abbrev pub fraction : List ℕ → List ℕ
fraction text = fraction_behind (behind_digits text)

-- numbers without a sign
abbrev pub sizes_cmp : List ℕ → List ℕ → Ordering
sizes_cmp one other = ordering_then (nat_cmp (whole one) (whole other)) (slice_cmp nat_cmp (fraction one) (fraction other))

-- how far a number lies above zero, and how far below: as the text of a number without a sign, which is empty where it doesn't
abbrev pub above_sign : List ℕ → List ℕ
above_sign text = if begins MINUS text then [] else text

abbrev pub below_sign : List ℕ → List ℕ
below_sign text = if begins MINUS text then behind_first text else []

abbrev pub above_zero : List ℕ → List ℕ
above_zero text = above_sign (behind_blanks text)

abbrev pub below_zero : List ℕ → List ℕ
below_zero text = below_sign (behind_blanks text)

-- the order of numbers: further above zero is later, and further below is earlier
abbrev pub numbers_cmp : List ℕ → List ℕ → Ordering
numbers_cmp one other = ordering_then (sizes_cmp (above_zero one) (above_zero other)) (sizes_cmp (below_zero other) (below_zero one))
