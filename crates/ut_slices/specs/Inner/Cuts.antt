-- Cuts of a piece, whatever comes behind it.
use Rattle.std.specs.Prelude.{◌≡◌, ◌≤◌, ℕ, List, ◌++◌, length, drop}
use Rattle.ut_slices.specs.Ends.{behind_lines, first_lines}

-- the piece is cut behind its first lines, of which so many are still to come
pub record PassesLines (piece : List ℕ) (count : ℕ) (front rest : List ℕ) (left : ℕ) : Type 0 where
  pub first : (more : List ℕ) → first_lines count (piece ++ more) ≡ front ++ first_lines left more
  pub behind : (more : List ℕ) → behind_lines count (piece ++ more) ≡ rest ++ behind_lines left more

-- the end of the text begins at the place, and hangs on nothing before it
pub record BeginsLast (last : List ℕ → List ℕ) (text : List ℕ) (place : ℕ) : Type 0 where
  pub within : place ≤ length text
  pub keeps : (more : List ℕ) → last (text ++ more) ≡ last (drop place text ++ more)
  pub whole : last (drop place text) ≡ drop place text
