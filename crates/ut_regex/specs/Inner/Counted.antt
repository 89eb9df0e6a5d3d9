-- Sizes as the code counts them.
use Rattle.std.specs.Prelude.{◌-◌, ◌^◌, min, List, map}
use Rattle.ut_regex.specs.declared.sizes.Size.{Size}
use Rattle.ut_regex.specs.Sizes.{row_place, bar_place, places, nesting}
use Rattle.ut_regex.specs.Tree.{Tree}

-- the size of an expression, as far as 32 bits tell
abbrev pub size_of : Tree → Size
size_of re = record {
  places = min (places re) (2 ^ 32 - 1);
  nesting = min (nesting re) (2 ^ 32 - 1);
  row_place = row_place re;
  bar_place = bar_place re;
}

-- the sizes of expressions
abbrev pub sizes_of : List Tree → List Size
sizes_of trees = map (λ re. size_of re) trees
