-- What the operators of `test` ask (XCU test). `ut_args` says which word spells which.
use Rattle.std.specs.Prelude.{Bool, true, false}
use Rattle.std.specs.declared.cmp.Ordering.{Ordering}
use Rattle.std.specs.Ordering.{is_eq, is_ne, is_gt, is_ge, is_lt, is_le}
use Rattle.ps_world.specs.declared.places.Place.{Place}
use Rattle.ps_world.specs.declared.places.Place.TheVariants as place
use Rattle.ut_args.specs.declared.operators.Asked.{Asked}
use Rattle.ut_args.specs.declared.operators.Asked.TheVariants as asked
use Rattle.ut_args.specs.declared.operators.Relation.{Relation}
use Rattle.ut_args.specs.declared.operators.Relation.TheVariants as relation

-- numbers in this order stand in the relation
abbrev pub holds : Relation → Ordering → Bool
holds relation.Equal order = is_eq order
holds relation.NotEqual order = is_ne order
holds relation.Greater order = is_gt order
holds relation.GreaterOrEqual order = is_ge order
holds relation.Less order = is_lt order
holds relation.LessOrEqual order = is_le order

-- what is at a place: the null device is there, and is neither a file nor a directory
abbrev pub exists : Place → Bool
exists place.Missing = false
exists (place.Makeable path) = false
exists (place.Dir path) = true
exists (place.File path) = true
exists place.Null = true

abbrev pub is_file : Place → Bool
is_file place.Missing = false
is_file (place.Makeable path) = false
is_file (place.Dir path) = false
is_file (place.File path) = true
is_file place.Null = false

abbrev pub is_dir : Place → Bool
is_dir place.Missing = false
is_dir (place.Makeable path) = false
is_dir (place.Dir path) = true
is_dir (place.File path) = false
is_dir place.Null = false

abbrev pub stands : Asked → Place → Bool
stands asked.Exists at = exists at
stands asked.IsFile at = is_file at
stands asked.IsDir at = is_dir at
