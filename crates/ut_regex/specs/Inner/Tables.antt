-- Tables of a machine's states. A table has an entry for each state and byte: the state behind it, or that the line has the
-- expression.
use Rattle.std.specs.Prelude.{ℕ, suc, Option, Some, None, ◌≡◌, ◌+◌, ◌*◌, ◌<◌, ◌≤◌, ◌==◌, ◌||◌, ◌⊎◌, not, Bool, true, false, List, [], ◌∷◌, length, map, reverse, slice_index_or, if◌then◌else◌}
use Rattle.ps_lines.specs.declared.newlines.TheConstants.{NEWLINE}
use Rattle.ut_regex.specs.declared.machine.Row.{Row}
use Rattle.ut_regex.specs.declared.program.Op.{Op}
use Rattle.ut_regex.specs.declared.table.TheConstants.{FOUND}
use Rattle.ut_regex.specs.declared.texts.Run.{Run}
use Rattle.ut_regex.specs.Inner.Seeks.{swept, leads_on, marked}

-- a state of a machine: whether it stands at the line's beginning, and its marks
pub record State : Type 0 where
  pub begins : Bool
  pub bits : List Bool

-- before a line is read
abbrev pub first_state : State
first_state = record { begins = true; bits = [] }

-- the state that a row holds
abbrev pub state_of : Row → State
state_of row = record { begins = row.begins; bits = reverse row.marks.items }

abbrev pub states_of : List Row → List State
states_of rows = map (λ row. state_of row) rows

abbrev pub state_at : List State → ℕ → State
state_at states place = slice_index_or states place first_state

-- the state behind a byte
abbrev pub after : List Op → Bool → Bool → State → ℕ → State
after ops fold whole s byte = record {
  begins = false;
  bits = marked fold byte (s.begins || not whole) ops (swept s.begins false ops s.bits).kept;
}

-- the expression may end in a state, at a place that is or isn't the line's end
abbrev pub leads_at : List Op → Bool → Bool → State → Bool
leads_at ops whole ends s = leads_on (s.begins || not whole) (swept s.begins ends ops s.bits)

-- the answer of a table for what is left of a line, from a state on
abbrev pub runs : List ℕ → List Bool → ℕ → List ℕ → Bool
runs next ends state [] = slice_index_or ends state true
runs next ends state (byte ∷ line) =
    if slice_index_or next (256 * state + byte) FOUND == FOUND then true
    else runs next ends (slice_index_or next (256 * state + byte) FOUND) line

-- the entry of a state for a byte of a text: at a newline the line ends, and the next one begins in the first state
abbrev pub text_entry : List ℕ → List Bool → ℕ → ℕ → ℕ
text_entry next ends state byte =
    if byte == NEWLINE then (if slice_index_or ends state true then FOUND else 0) else slice_index_or next (256 * state + byte) FOUND

-- a table for texts has these entries
abbrev pub IsForTexts : List ℕ → List Bool → List ℕ → Type 0
IsForTexts next ends entries = (state byte : ℕ) → byte < 256 → slice_index_or entries (256 * state + byte) FOUND ≡ text_entry next ends state byte

-- a table has the entries of each state to which one of them leads
pub record IsWhole (entries : List ℕ) : Type 0 where
  pub some : 255 < length entries
  pub leads : (state byte : ℕ) → byte < 256 → 256 * state + byte < length entries → (slice_index_or entries (256 * state + byte) FOUND == FOUND) ≡ false
      → 256 * slice_index_or entries (256 * state + byte) FOUND + 255 < length entries

-- where a line lacks the expression, the next one begins in the first state
abbrev pub BeginsLines : List ℕ → Type 0
BeginsLines entries =
    (state : ℕ) → (slice_index_or entries (256 * state + NEWLINE) FOUND == FOUND) ≡ false → slice_index_or entries (256 * state + NEWLINE) FOUND ≡ 0

-- how much is left of a text where the first line that has the expression is known to have it, the byte that shows it among it; by the
-- entries of a table for texts, from a state on. What is behind the last newline counts as far as it is read
abbrev pub left_at_found : List ℕ → ℕ → List ℕ → Option ℕ
left_at_found entries state [] = None
left_at_found entries state (byte ∷ rest) =
    if slice_index_or entries (256 * state + byte) FOUND == FOUND then Some (suc (length rest))
    else left_at_found entries (slice_index_or entries (256 * state + byte) FOUND) rest

-- a run over a text: what is left of it is found from the state on as in the whole
abbrev pub IsRun : List ℕ → List ℕ → Run → Type 0
IsRun entries text run = (left_at_found entries run.state run.left.now ≡ left_at_found entries 0 text) × (length run.left.now ≤ length text)

-- an entry leads to a state: the expression ends there, or it is that state's place
abbrev pub IsEntry : List Op → Bool → List State → ℕ → State → Type 0
IsEntry ops whole states entry target =
    ((entry ≡ FOUND) × (whole ≡ false) × (leads_at ops whole false target ≡ true))
    ⊎ ((entry < FOUND) × (entry < length states) × (state_at states entry ≡ target) × (whole ≡ false → leads_at ops whole false target ≡ false))

-- the entries that there are so far lead where they should
abbrev pub Entered : List Op → Bool → Bool → List State → List ℕ → Type 0
Entered ops fold whole states next = (state byte : ℕ) → byte < 256 → 256 * state + byte < length next
    → IsEntry ops whole states (slice_index_or next (256 * state + byte) FOUND) (after ops fold whole (state_at states state) byte)

-- states are added and none is changed
pub record Keeps (states more : List State) : Type 0 where
  pub longer : length states ≤ length more
  pub same : (place : ℕ) → place < length states → state_at more place ≡ state_at states place

-- a table has each of these states
pub record IsTable (ops : List Op) (fold whole : Bool) (states : List State) (next : List ℕ) (ends : List Bool) : Type 0 where
  pub some : 0 < length states
  pub first : state_at states 0 ≡ first_state
  pub quiet : whole ≡ false → leads_at ops whole false first_state ≡ false
  pub full : length next ≡ 256 * length states
  pub entries : Entered ops fold whole states next
  pub last : (state : ℕ) → state < length states → slice_index_or ends state true ≡ leads_at ops whole true (state_at states state)
