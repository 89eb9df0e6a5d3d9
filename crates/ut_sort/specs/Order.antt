-- The order of lines, and what `sort` writes (XCU sort). Where no key tells two lines apart, all their bytes do, in reverse with a global r;
-- with -u nothing does, and the first of each set of equal lines is kept (own).
use Rattle.std.specs.Prelude.{ℕ, List, Bool, Option, if◌then◌else◌}
use Rattle.std.specs.declared.cmp.Ordering.{Ordering}
use Rattle.std.specs.declared.cmp.Ordering.TheVariants.{Equal}
use Rattle.std.specs.Ordering.{ordering_then}
use Rattle.ut_args.specs.declared.SortArgs.{SortArgs}
use Rattle.ut_args.specs.declared.Key.{Key}
use Rattle.ps_lines.specs.Lines.{lines, text_of_lines}
use Rattle.ut_sort.specs.Keys.{bytes_cmp, directed, keys_cmp, keys_in_force}
use Rattle.ut_sort.specs.Sorted.{sorted}

-- by all bytes, where that is asked
abbrev pub last_cmp : Bool → Bool → List ℕ → List ℕ → Ordering
last_cmp unique reverse one other = if unique then Equal else directed reverse bytes_cmp one other

-- by these keys, and then by all bytes
abbrev pub lines_cmp : Option ℕ → List Key → Bool → Bool → List ℕ → List ℕ → Ordering
lines_cmp separator keys unique reverse one other = ordering_then (keys_cmp separator keys one other) (last_cmp unique reverse one other)

-- the order of two lines
abbrev pub order_of : SortArgs → List ℕ → List ℕ → Ordering
order_of args one other =
    lines_cmp args.separator (keys_in_force args.ordering args.keys) args.unique args.ordering.reverse one other

-- lines in this order, and what is written for a text
abbrev pub sorted_lines : SortArgs → List (List ℕ) → List (List ℕ)
sorted_lines args texts = sorted (order_of args) args.unique texts

abbrev pub sorted_text : SortArgs → List ℕ → List ℕ
sorted_text args text = text_of_lines (sorted_lines args (lines text))
