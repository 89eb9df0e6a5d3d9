-- What is due of head over several inputs, where the first of those to come has begun or not.
use Rattle.std.specs.Prelude.{ℕ, List, [], ◌∷◌, ◌++◌, Bool, false, drop, get_or, if◌then◌else◌}
use Rattle.std.specs.List.{flat_map}
use Rattle.ut_streams.specs.Utilities.{Input, labelled}
use Rattle.ut_slices.specs.Ends.{first_lines}
use Rattle.ut_slices.specs.Head.{headed, header}

-- what stands before the lines of an input
abbrev pub header_by : Bool → Bool → List ℕ → List ℕ
header_by has_headers is_first label = if has_headers then header is_first label else []

-- the output for inputs none of which has begun
abbrev pub heads_of : Bool → Bool → ℕ → List Input → List ℕ
heads_of has_headers is_first count inputs =
    if has_headers then headed is_first count inputs else flat_map (λ (input : Input). first_lines count input.text) inputs

-- what is due, where so many lines of the first of the inputs are still to come, and its header, unless it has begun
abbrev pub heads_due : (has_headers is_first begun : Bool) (count left : ℕ) (labels : List (List ℕ)) → List (List ℕ) → List ℕ
heads_due has_headers is_first begun count left labels [] = []
heads_due has_headers is_first begun count left labels (text ∷ others) =
    (if begun then [] else header_by has_headers is_first (get_or labels 0 []))
    ++ (first_lines left text ++ heads_of has_headers false count (labelled (drop 1 labels) others))
