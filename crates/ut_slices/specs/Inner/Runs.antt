-- Runs: neighbouring places that are all selected, or none of them.
use Rattle.std.specs.Prelude.{◌≡◌, ℕ, ◌-◌, List, [], ◌∷◌, ◌++◌, Bool, true, Option, None, Some, length, nat_lt, if◌then◌else◌}
use Rattle.ut_slices.specs.Cut.{fields}
use Rattle.ut_slices.specs.declared.selections.Run.{Run}

-- the place is before this one, or there is none
abbrev pub is_before : ℕ → Option ℕ → Bool
is_before index None = true
is_before index (Some end) = nat_lt index end

-- a place is selected, by runs and by what holds of the places behind them
abbrev pub in_runs : List Run → Bool → ℕ → Bool
in_runs [] rest index = rest
in_runs (run ∷ others) rest index = if nat_lt index run.count then run.selected else in_runs others rest (index - run.count)

-- the text is cut at a delimiter, behind so many fields
pub record CutsAtDelimiter (delimiter count : ℕ) (text front rest : List ℕ) : Type 0 where
  pub whole : text ≡ front ++ delimiter ∷ rest
  pub before : length (fields delimiter front) ≡ count

-- at the first one
pub record CutsField (delimiter : ℕ) (text field rest : List ℕ) : Type 0 where
  pub whole : text ≡ field ++ delimiter ∷ rest
  pub plain : length (fields delimiter field) ≡ 1
