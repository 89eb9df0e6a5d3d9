-- The lines of a text by where they stand in it: a line is a number, and there is no copy of it.
use Rattle.std.specs.Prelude.{◌≡◌, ℕ, ◌/◌, ◌%◌, ◌<◌, ◌==◌, nat_lt, List, [], ◌∷◌, map, take, drop, ⊤, if◌then◌else◌}
use Rattle.std.specs.declared.cmp.Ordering.{Ordering}
use Rattle.std.specs.Ordering.{nat_cmp, ordering_then}
use Rattle.ps_lines.specs.declared.newlines.TheConstants.{NEWLINE}
use Rattle.ut_sort.specs.declared.places.LinePlace.{LinePlace}
use Rattle.ut_sort.specs.declared.places.TheConstants.{LONG, SIZES}
use Rattle.ut_sort.specs.declared.line_orders.LineOrder.{LineOrder}
use Rattle.ut_sort.specs.LineOrders.{number_by, tied_by}
use Rattle.ut_sort.specs.Prefixes.{FirstKey}

-- the bytes before the first newline; all where there is none
abbrev pub first_line : List ℕ → List ℕ
first_line [] = []
first_line (byte ∷ rest) = if byte == NEWLINE then [] else byte ∷ first_line rest

-- the line at a place: where it begins, and how long it is or that it is long
abbrev pub line_in : List ℕ → ℕ → List ℕ
line_in text span =
    if nat_lt (span % SIZES) LONG then take (span % SIZES) (drop (span / SIZES) text) else first_line (drop (span / SIZES) text)

abbrev pub lines_in : List ℕ → List LinePlace → List (List ℕ)
lines_in text places = map (λ place. line_in text place.span) places

-- the same line with another number
abbrev pub with_number : ℕ → LinePlace → LinePlace
with_number number place = record { number = number; span = place.span }

-- the order of the lines at two places: by their numbers, and then as lines
abbrev pub tie_cmp : LineOrder → List ℕ → LinePlace → LinePlace → Ordering
tie_cmp order text one other =
    ordering_then (nat_cmp one.number other.number) (tied_by order one.number (line_in text one.span) (line_in text other.span))

-- and at last by where they stand
abbrev pub place_cmp : LineOrder → List ℕ → LinePlace → LinePlace → Ordering
place_cmp order text one other = ordering_then (tie_cmp order text one other) (nat_cmp one.span other.span)

-- the number is that of the line there
pub record IsPlace (order : LineOrder) (text : List ℕ) (place : LinePlace) : Type 0 where
  pub number : place.number ≡ number_by order (line_in text place.span)
  pub key : FirstKey order.separator order.keys.items (line_in text place.span)

abbrev pub ArePlaces : LineOrder → List ℕ → List LinePlace → Type 0
ArePlaces order text [] = ⊤
ArePlaces order text (place ∷ others) = IsPlace order text place × ArePlaces order text others

-- each of these stands behind this place
abbrev pub StandBehind : ℕ → List LinePlace → Type 0
StandBehind span [] = ⊤
StandBehind span (place ∷ others) = (span < place.span) × StandBehind span others

-- each stands behind those before it, and before an end
abbrev pub RiseTo : ℕ → List LinePlace → Type 0
RiseTo end [] = ⊤
RiseTo end (place ∷ others) = (place.span < end) × (StandBehind place.span others × RiseTo end others)
