-- The files among a utility's inputs, and the readers of them.
use Rattle.std.specs.Prelude.{ℕ, List, [], ◌∷◌, Bool, nat_lt}
use Rattle.std.specs.List.{list_any}
use Rattle.ps_world.specs.Files.{Files, IsFileAt}
use Rattle.fl_segments.specs.declared.stages.In.{In}
use Rattle.fl_segments.specs.declared.stages.In.TheVariants as inlet

-- each file is there
abbrev pub IsThere : Files → In → Type 0
IsThere files inlet.Stream = Unit {0}
IsThere files (inlet.File path closed) = IsFileAt files path
IsThere files inlet.Empty = Unit {0}

abbrev pub AreThere : Files → List In → Type 0
AreThere files [] = Unit {0}
AreThere files (first ∷ rest) = IsThere files first × AreThere files rest

-- one of these counts of faults is above 0
abbrev pub has_count : List ℕ → Bool
has_count counts = list_any (λ count. nat_lt 0 count) counts
