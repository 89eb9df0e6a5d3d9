-- Words of the command line that are too few.
use Rattle.std.proofs.Common.{◌≡◌, ◌<◌, List, [], ◌∷◌, Option, None, length, refl, arith}
use Rattle.std.specs.Prelude.{String}
use Rattle.std.specs.Global.{Global}
use Rattle.pash.specs.Words.{Command, texts, trial_by}

pub none-of-one : (words : List (String Global)) → length words < 2 → None ≡ trial_by (texts words)
none-of-one [] few = refl
none-of-one (first ∷ []) few = refl
none-of-one (first ∷ second ∷ rest) few = let never : ⊥ = omega arith in absurd never
