-- The files that utilities hand their input to (XCU tee).
use Rattle.std.specs.Prelude.{◌≡◌, ℕ, length, List, [], ◌∷◌, ◌++◌, false, true, Option, IfSome}
use Rattle.std.specs.FinMap as map
use Rattle.std.specs.List.{list_any}
use Rattle.std.specs.Option.{option_map}
use Rattle.ps_world.specs.Files.{Bytes, Files, IsFileAt, IsOneOf, Node, bytes_at}
use Rattle.ps_world.specs.Paths.{Components}
use Rattle.ps_world.specs.Places.{is_null_path}
use Rattle.ut_args.specs.declared.invocations.Inv.{Inv}
use Rattle.fl_graph.specs.Paths.{are_distinct, is_among}
use Rattle.fl_segments.specs.Stages.{is_tee}

-- tee alone writes files
abbrev pub MayWrite : Inv → List Components → Type 0
MayWrite inv [] = Unit {0}
MayWrite inv (path ∷ paths) = is_tee inv ≡ true

-- no file is both read and written, none is written twice, and none that is written is the null device
pub record IsApart (read written : List Components) : Type 0 where
  pub apart : list_any (is_among read) written ≡ false
  pub once : are_distinct written ≡ true
  pub files : list_any is_null_path written ≡ false

abbrev pub AreWrittenApart : List Components → List Components → Type 0
AreWrittenApart read [] = Unit {0}
AreWrittenApart read (path ∷ paths) = IsApart read (path ∷ paths)

-- a file is at each of these paths
abbrev pub AreFilesAt : Files → List Components → Type 0
AreFilesAt files [] = Unit {0}
AreFilesAt files (path ∷ paths) = IsFileAt files path × AreFilesAt files paths

-- so it is where files are told
abbrev pub AreBegun : Option Files → List Components → Type 0
AreBegun held [] = Unit {0}
AreBegun held (path ∷ paths) = IfSome held (λ files. AreFilesAt files (path ∷ paths))

-- each is a file of its text
abbrev pub filled : List Components → List (List ℕ) → Files → Files
filled [] texts files = files
filled (path ∷ paths) [] files = files
filled (path ∷ paths) (text ∷ texts) files = map.insert (filled paths texts files) path (Bytes text)

-- each has its text behind what it held
abbrev pub all_added : List Components → List (List ℕ) → Files → Files
all_added [] texts files = files
all_added (path ∷ paths) [] files = files
all_added (path ∷ paths) (text ∷ texts) files = all_added paths texts (map.insert files path (Bytes (bytes_at files path ++ text)))

-- each is a file of some text, and all else is as it was
pub record AreFilled (paths : List Components) (held held' : Option Files) : Type 0 where
  pub texts : List (List ℕ)
  pub many : length texts ≡ length paths
  pub is : held' ≡ option_map (filled paths texts) held

-- what is told of what stands at a path
abbrev pub told_at : Option Files → Components → Option (Option Node)
told_at held path = option_map (λ (files : Files). map.get files path) held

-- at every path but these stands what stood there
pub record ChangesOnly (paths : List Components) (held held' : Option Files) : Type 0 where
  pub others : (path : Components) → (IsOneOf paths path → ⊥) → told_at held' path ≡ told_at held path
