-- What has come of the texts that a merge takes at its ports, and hasn't gone on.
use Rattle.std.specs.Prelude.{◌≡◌, ℕ, suc, ◌+◌, List, [], ◌∷◌, ◌++◌, Bool, false, not, ◌&&◌, Option, None, Some, drop, length, slice_get, if◌then◌else◌}
use Rattle.std.specs.Option.{option_map_or}
use Rattle.std.specs.declared.cmp.Ordering.{Ordering}
use Rattle.ps_lines.specs.Lines.{has_newline, lines}
use Rattle.ut_streams.specs.Streams.{Wrote}
use Rattle.ut_sort.specs.Merging.{merged_of}
use Rattle.ut_sort.specs.declared.texts.Side.{Side}

abbrev pub held : Side → List ℕ
held side = drop side.at side.text.items

-- what is held of the text at a port, and whether more of it may come
abbrev pub held_at : List Side → ℕ → List ℕ
held_at sides port = option_map_or held (slice_get sides port) []

abbrev pub is_open_at : List Side → ℕ → Bool
is_open_at sides port = option_map_or (λ (side : Side). side.is_open) (slice_get sides port) false

-- the text at a port from what is held on, if these texts come
abbrev pub coming : List Side → (ℕ → List ℕ) → ℕ → List ℕ
coming sides texts port = held_at sides port ++ (if is_open_at sides port then texts port else [])

abbrev pub coming_lines : List Side → (ℕ → List ℕ) → ℕ → List (List ℕ)
coming_lines sides texts port = lines (coming sides texts port)

-- what is still to be written, if they come
abbrev pub due_of : (List ℕ → List ℕ → Ordering) → Bool → List Side → (ℕ → List ℕ) → List ℕ
due_of cmp unique sides texts = merged_of cmp unique (coming sides texts) (length sides)

-- a side waits for its text: no whole line of it is held
abbrev pub waits : Side → Bool
waits side = side.is_open && not (has_newline (held side))

-- the first that does, where the first of these has this number
abbrev pub first_waiting : ℕ → List Side → Option ℕ
first_waiting port [] = None
first_waiting port (side ∷ sides) = if waits side then Some port else first_waiting (suc port) sides

-- how many bytes are held
abbrev pub total_held : List Side → ℕ
total_held [] = 0
total_held (side ∷ sides) = length (held side) + total_held sides

-- all sides have come to their ends, and nothing is held
abbrev pub AreDone : List Side → Type 0
AreDone sides = (port : ℕ) → (held_at sides port ≡ []) × (is_open_at sides port ≡ false)

-- where no side waits, all are done
abbrev pub IsSettled : List Side → Type 0
IsSettled sides = first_waiting 0 sides ≡ None → AreDone sides

-- lines were written or left out
pub record Goes (cmp : List ℕ → List ℕ → Ordering) (unique : Bool) (old new : List Side) (written now : List ℕ) (whole : Bool) : Type 0 where
  pub wrote : Wrote (due_of cmp unique old) (due_of cmp unique new) written now whole
  pub opens : (port : ℕ) → is_open_at new port ≡ is_open_at old port
  pub counted : length new ≡ length old
