-- What the marks of a program mean, and what a sweep computes of them.
use Rattle.std.proofs.Common.{ℕ, ◌≡◌, ◌+◌, ◌<◌, ◌⊎◌, Bool, true, false, ◌&&◌, ◌||◌, List, [], ◌∷◌, ◌++◌, length, slice_index_or}
use Rattle.ut_regex.specs.Spans.{fits, Copies}
use Rattle.ut_regex.specs.Inner.Program.{Core, point, at_begin, at_end, nothing, both, either, many, maybe}

-- a program without its marks
abbrev pub shape : Core → Core
shape (point one mark) = point one false
shape at_begin = at_begin
shape at_end = at_end
shape nothing = nothing
shape (both first second) = both (shape first) (shape second)
shape (either first second) = either (shape first) (shape second)
shape (many part) = many (shape part)
shape (maybe part) = maybe (shape part)

-- the marks in their order
abbrev pub marks : Core → List Bool
marks (point one mark) = mark ∷ []
marks at_begin = []
marks at_end = []
marks nothing = []
marks (both first second) = marks first ++ marks second
marks (either first second) = marks first ++ marks second
marks (many part) = marks part
marks (maybe part) = marks part

-- it spans nothing at a place that is or isn't the line's beginning and end
abbrev pub skips : Bool → Bool → Core → Bool
skips begins ends (point one mark) = false
skips begins ends at_begin = begins
skips begins ends at_end = ends
skips begins ends nothing = true
skips begins ends (both first second) = skips begins ends first && skips begins ends second
skips begins ends (either first second) = skips begins ends first || skips begins ends second
skips begins ends (many part) = true
skips begins ends (maybe part) = true

-- the byte that was just read may be its last one
abbrev pub closes : Bool → Bool → Core → Bool
closes begins ends (point one mark) = mark
closes begins ends at_begin = false
closes begins ends at_end = false
closes begins ends nothing = false
closes begins ends (both first second) = closes begins ends second || (skips begins ends second && closes begins ends first)
closes begins ends (either first second) = closes begins ends first || closes begins ends second
closes begins ends (many part) = closes begins ends part
closes begins ends (maybe part) = closes begins ends part

-- the way leads on behind it, where it is entered or not
abbrev pub passes : Bool → Bool → Bool → Core → Bool
passes begins ends entered core = closes begins ends core || (skips begins ends core && entered)

-- the program with the marks that are there behind the next byte, where it is entered or not
abbrev pub entering : Bool → Bool → Bool → ℕ → Bool → Core → Core
entering begins ends fold byte entered (point one mark) = point one (entered && fits fold one byte)
entering begins ends fold byte entered at_begin = at_begin
entering begins ends fold byte entered at_end = at_end
entering begins ends fold byte entered nothing = nothing
entering begins ends fold byte entered (both first second) =
    both (entering begins ends fold byte entered first) (entering begins ends fold byte (passes begins ends entered first) second)
entering begins ends fold byte entered (either first second) =
    either (entering begins ends fold byte entered first) (entering begins ends fold byte entered second)
entering begins ends fold byte entered (many part) =
    many (entering begins ends fold byte (closes begins ends part || entered) part)
entering begins ends fold byte entered (maybe part) = maybe (entering begins ends fold byte entered part)

-- the program spans the bytes of the line between two places
abbrev pub Runs : Bool → List ℕ → Core → ℕ → ℕ → Type 0
Runs fold line (point one mark) from to = (from < length line) × (to ≡ from + 1) × (fits fold one (slice_index_or line from 0) ≡ true)
Runs fold line at_begin from to = (from ≡ 0) × (to ≡ from)
Runs fold line at_end from to = (from ≡ length line) × (to ≡ from)
Runs fold line nothing from to = to ≡ from
Runs fold line (both first second) from to = (middle : ℕ) × Runs fold line first from middle × Runs fold line second middle to
Runs fold line (either first second) from to = Runs fold line first from to ⊎ Runs fold line second from to
Runs fold line (many part) from to = (count : ℕ) × Copies (Runs fold line part) count from to
Runs fold line (maybe part) from to = (to ≡ from) ⊎ Runs fold line part from to

-- it is entered at some place, and spans from there
abbrev pub Behind : Bool → List ℕ → Core → (ℕ → Type 0) → ℕ → Type 0
Behind fold line core Entered to = (from : ℕ) × Entered from × Runs fold line (shape core) from to

-- the same, with a byte read since
abbrev pub Closed : Bool → List ℕ → Core → (ℕ → Type 0) → ℕ → Type 0
Closed fold line core Entered to = (from : ℕ) × (from < to) × Entered from × Runs fold line (shape core) from to

-- each mark tells whether its point was the last one read, where the program is entered at certain places
abbrev pub Right : Bool → List ℕ → Core → (ℕ → Type 0) → ℕ → Type 0
Right fold line (point one mark) Entered place =
    (mark ≡ true → Closed fold line (point one mark) Entered place) × (Closed fold line (point one mark) Entered place → mark ≡ true)
Right fold line at_begin Entered place = Unit {0}
Right fold line at_end Entered place = Unit {0}
Right fold line nothing Entered place = Unit {0}
Right fold line (both first second) Entered place =
    Right fold line first Entered place × Right fold line second (Behind fold line first Entered) place
Right fold line (either first second) Entered place = Right fold line first Entered place × Right fold line second Entered place
Right fold line (many part) Entered place = Right fold line part (Behind fold line (many part) Entered) place
Right fold line (maybe part) Entered place = Right fold line part Entered place
