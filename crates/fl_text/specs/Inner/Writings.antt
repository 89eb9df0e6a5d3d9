-- Files that are written, each of which is looked up among those before.
use Rattle.std.specs.Prelude.{List, [], ◌∷◌, Bool, true, false, not, ◌&&◌, ◌||◌, nat_eq}
use Rattle.std.specs.BTreeSet.{BTreeSet, contains}
use Rattle.std.specs.Cmp.Lexicographic.{pointwise}
use Rattle.ps_world.specs.Paths.{Components, path_cmp}
use Rattle.ps_world.specs.Places.{is_null_path}

-- the path is among those that are kept
abbrev pub is_kept : BTreeSet Components → Components → Bool
is_kept files path = contains path_cmp files path

-- no path is known
abbrev pub is_none : Components → Bool
is_none path = false

-- the paths that are known, and this one, or these
abbrev pub with_path : Components → (Components → Bool) → Components → Bool
with_path path known other = pointwise (pointwise nat_eq) other path || known other

abbrev pub with_paths : List Components → (Components → Bool) → Components → Bool
with_paths [] known = known
with_paths (path ∷ paths) known = with_paths paths (with_path path known)

-- the path isn't known, and isn't that of the null device
abbrev pub is_new : (Components → Bool) → Components → Bool
is_new known path = not (is_null_path path) && not (known path)

-- none of these is known, or twice among them, or that of the null device
abbrev pub are_new : (Components → Bool) → List Components → Bool
are_new known [] = true
are_new known (path ∷ paths) = is_new known path && are_new (with_path path known) paths
