-- Rows that are written as their lines come: what is due at each point of them.
use Rattle.std.specs.Prelude.{◌≡◌, ℕ, ◌+◌, ◌*◌, ◌==◌, List, [], ◌∷◌, ◌++◌, drop, slice_get, Bool, true, false, Option, Some, None, if◌then◌else◌}
use Rattle.ps_lines.specs.Lines.{is_empty}
use Rattle.ps_lines.specs.declared.newlines.TheConstants.{NEWLINE}
use Rattle.ut_streams.specs.Streams.{Wrote}
use Rattle.ut_slices.specs.Paste.{first_delimiter, following, side_by_side}
use Rattle.ut_slices.specs.Inner.Ports.{is_open_at, total_waiting, waiting_at}
use Rattle.ut_slices.specs.declared.waits.Port.{Port}
use Rattle.ut_slices.specs.declared.walks.Plan.{Plan}
use Rattle.ut_slices.specs.declared.walks.Walk.{Walk}

-- the first line of a text, and what stands behind it
abbrev pub line_of : List ℕ → List ℕ
line_of [] = []
line_of (byte ∷ rest) = if byte == NEWLINE then [] else byte ∷ line_of rest

abbrev pub rest_of : List ℕ → List ℕ
rest_of [] = []
rest_of (byte ∷ rest) = if byte == NEWLINE then rest else rest_of rest

-- the texts of all ports where the first line of one was passed
abbrev pub passed : ℕ → (ℕ → List ℕ) → ℕ → List ℕ
passed port texts other = if other == port then rest_of (texts port) else texts other

-- what is due of a row from some column on, and of those behind it: within a line, or before it; where a column of the row has had a line, or
-- none; with the delimiters that are due before the next line, and those that are left
module _ (again : List (Option ℕ)) (all : List ℕ) where
  abbrev pub due_from : Bool → Bool → List ℕ → List (Option ℕ) → List ℕ → (ℕ → List ℕ) → List ℕ
  due_from within begun front left [] texts = if begun then front ++ NEWLINE ∷ side_by_side again all texts else []
  due_from within begun front left (port ∷ columns) texts =
      if within then line_of (texts port) ++ due_from false true [] (following again left) columns (passed port texts)
      else if is_empty (texts port) then due_from false begun (front ++ first_delimiter left) (following again left) columns texts
      else front ++ (first_delimiter left ++ (line_of (texts port) ++ due_from false true [] (following again left) columns (passed port texts)))

-- what comes at the ports: what waits there, and what is still to come where they are open
abbrev pub coming : List Port → (ℕ → List ℕ) → ℕ → List ℕ
coming ports texts port = waiting_at ports port ++ (if is_open_at ports port then texts port else [])

-- what is due of a walk over rows
abbrev pub due_of_walk : Plan → Walk → (ℕ → List ℕ) → List ℕ
due_of_walk plan walk texts =
    due_from (drop 1 plan.delimiters.items) plan.columns.items walk.within walk.begun walk.front.items
    (drop walk.delimiter plan.delimiters.items) (drop walk.column plan.columns.items) (coming walk.ports.items texts)

-- a column has this port
abbrev pub has_port : ℕ → List ℕ → Bool
has_port port [] = false
has_port port (column ∷ columns) = if column == port then true else has_port port columns

-- each port that is open has a column, and one that is left where none of the row has had a line
pub record IsRead (plan : Plan) (walk : Walk) : Type 0 where
  pub once : (port : ℕ) → is_open_at walk.ports.items port ≡ true → has_port port plan.columns.items ≡ true
  pub left : (port : ℕ) → walk.begun ≡ false → is_open_at walk.ports.items port ≡ true → has_port port (drop walk.column plan.columns.items) ≡ true

-- how much is left to do before more comes
abbrev pub weight : Walk → ℕ
weight walk = 2 * total_waiting walk.ports.items + (if walk.begun then 1 else 0)

-- a step of a walk, which writes what is due and ends no port
pub record Goes (plan : Plan) (old new : Walk) (written now : List ℕ) (whole : Bool) : Type 0 where
  pub wrote : Wrote (due_of_walk plan old) (due_of_walk plan new) written now whole
  pub open_still : (port : ℕ) → is_open_at new.ports.items port ≡ is_open_at old.ports.items port
  pub reads : IsRead plan old → IsRead plan new

-- a walk waits for a port that is open, or has come to its end
pub record IsSettled (plan : Plan) (walk : Walk) : Type 0 where
  pub waits : (port : ℕ) → slice_get plan.columns.items walk.column ≡ Some port → is_open_at walk.ports.items port ≡ true
  pub ended : slice_get plan.columns.items walk.column ≡ None → walk.begun ≡ false

-- what waits is cut behind its first line, or is all of it where the line doesn't end
pub record CutsWaiting (waiting text : List ℕ) (count : ℕ) (ends : Bool) : Type 0 where
  pub first : (more : List ℕ) → line_of (waiting ++ more) ≡ text ++ (if ends then [] else line_of more)
  pub rest : (more : List ℕ) → rest_of (waiting ++ more) ≡ (if ends then drop count waiting ++ more else rest_of more)
