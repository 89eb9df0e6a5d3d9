-- The maps of invocations, and how those of neighbours are joined (own; PaSh's maps and aggregators).
use Rattle.std.specs.Prelude.{ℕ, List, [], ◌∷◌}
use Rattle.ut_args.specs.declared.invocations.Inv.{Inv}
use Rattle.fl_classes.specs.Utilities.{utility_of}

-- the map of one part of the input
abbrev pub map_of : Inv → List ℕ → List ℕ
map_of inv text = (utility_of inv).part text

-- the map of two parts, from their maps
abbrev pub joined_maps : Inv → List ℕ → List ℕ → List ℕ
joined_maps inv first second = (utility_of inv).aggregate first second

-- that of several parts, from the left
abbrev pub aggregate_from : Inv → List ℕ → List (List ℕ) → List ℕ
aggregate_from inv first [] = first
aggregate_from inv first (second ∷ maps) = aggregate_from inv (joined_maps inv first second) maps

abbrev pub aggregate_of : Inv → List (List ℕ) → List ℕ
aggregate_of inv [] = []
aggregate_of inv (first ∷ maps) = aggregate_from inv first maps

-- the output, from the map of the whole
abbrev pub finish_of : Inv → List ℕ → List ℕ
finish_of inv text = (utility_of inv).finish text
