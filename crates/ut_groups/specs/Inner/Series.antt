-- What is due of wc over several inputs, of the first of which some has come.
use Rattle.std.specs.Prelude.{◌≡◌, ℕ, List, [], ◌∷◌, ◌++◌, Bool, true, drop, get_or, codes, if◌then◌else◌}
use Rattle.std.specs.List.{flat_map}
use Rattle.ut_streams.specs.Utilities.{Input, labelled}
use Rattle.ut_groups.specs.declared.counting.Counts.{Counts}
use Rattle.ut_groups.specs.declared.columns.Columns.{Columns}
use Rattle.ut_groups.specs.Counting.{added, counts_of, saturated}
use Rattle.ut_groups.specs.Columns.{counts_line}
use Rattle.ut_groups.specs.Inner.Columns.{counts_behind}
use Rattle.ut_groups.specs.Wc.{counts_of_all}

-- counts of which those that are asked for are printed alike
pub record PrintAlike (columns : Columns) (one other : Counts) : Type 0 where
  pub lines : columns.lines ≡ true → saturated one.lines ≡ saturated other.lines
  pub words : columns.words ≡ true → saturated one.words ≡ saturated other.words
  pub bytes : columns.bytes ≡ true → saturated one.bytes ≡ saturated other.bytes

-- the line of the sums, where there is one
abbrev pub total_line : Bool → Columns → Counts → List ℕ
total_line has_total columns sums = if has_total then counts_line columns sums (codes "total") else []

-- the lines of inputs none of which has come, and of the sums of them and of those that have come
abbrev pub lines_behind : Bool → Columns → Counts → List Input → List ℕ
lines_behind has_total columns sums inputs =
    flat_map (λ (input : Input). counts_line columns (counts_of input.text) input.label) inputs ++ total_line has_total columns (added sums (counts_of_all inputs))

-- the same, where of the first of the inputs these counts have come, and this byte at last
abbrev pub wc_due : (has_total : Bool) (columns : Columns) (sums counts : Counts) (before : ℕ) (labels : List (List ℕ)) → List (List ℕ) → List ℕ
wc_due has_total columns sums counts before labels [] = total_line has_total columns sums
wc_due has_total columns sums counts before labels (text ∷ others) =
    counts_line columns (counts_behind counts before text) (get_or labels 0 [])
    ++ lines_behind has_total columns (added sums (counts_behind counts before text)) (labelled (drop 1 labels) others)
