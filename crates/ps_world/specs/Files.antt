-- The files: a finite map from paths to what stands there.
use Rattle.std.specs.Prelude.{◌≡◌, ℕ, List, [], ◌∷◌, ◌++◌, ◌⊎◌, Option, Some, None, IsTrue, if◌then◌else◌}
use Rattle.std.specs.FinMap as map
use Rattle.std.specs.List.{count_by}
use Rattle.std.specs.Str.{bytes_eq}
use Rattle.ps_world.specs.Paths.{Components, is_name, parent_of, path_cmp}
use Rattle.ps_world.specs.declared.tree.Kind.{Kind}
use Rattle.ps_world.specs.declared.tree.Kind.TheVariants as kind
use Rattle.ps_world.specs.declared.tree.Mode.{Mode}
use Rattle.ps_world.specs.declared.tree.Mode.TheVariants as mode

-- what stands at a path: a file's bytes, a directory, or a file while its writer is out
pub data Node : Type 0 where
  Bytes : List ℕ → Node
  Directory : Node
  WriterOut : Node

abbrev pub Files : Type 0
Files = map.FinMap path_cmp Node

-- a file whose writer is out counts as a file
abbrev pub kind_of : Option Node → Kind
kind_of None = kind.Missing
kind_of (Some (Bytes bytes)) = kind.File
kind_of (Some Directory) = kind.Dir
kind_of (Some WriterOut) = kind.File

abbrev pub kind_at : Files → Components → Kind
kind_at files path = kind_of (map.get files path)

-- a file's bytes, and none where no file is in
abbrev pub bytes_of : Option Node → List ℕ
bytes_of None = []
bytes_of (Some (Bytes bytes)) = bytes
bytes_of (Some Directory) = []
bytes_of (Some WriterOut) = []

abbrev pub bytes_at : Files → Components → List ℕ
bytes_at files path = bytes_of (map.get files path)

abbrev pub IsFile : Option Node → Type 0
IsFile None = ⊥
IsFile (Some (Bytes bytes)) = Unit {0}
IsFile (Some Directory) = ⊥
IsFile (Some WriterOut) = ⊥

-- a file is there, and no writer of it is out
abbrev pub IsFileAt : Files → Components → Type 0
IsFileAt files path = IsFile (map.get files path)

abbrev pub IsDir : Option Node → Type 0
IsDir None = ⊥
IsDir (Some (Bytes bytes)) = ⊥
IsDir (Some Directory) = Unit {0}
IsDir (Some WriterOut) = ⊥

-- a directory is there
abbrev pub IsDirAt : Files → Components → Type 0
IsDirAt files path = IsDir (map.get files path)

-- a file can be made here: anew where one is in, and where nothing is, in a directory
abbrev pub CanBe : Option Node → Option Node → Type 0
CanBe None parent = IsDir parent
CanBe (Some (Bytes bytes)) parent = Unit {0}
CanBe (Some Directory) parent = ⊥
CanBe (Some WriterOut) parent = ⊥

-- a file can be made at the path: one is there and no writer of it is out, or nothing is there and the parent is a directory
abbrev pub CanBeMade : Files → Components → Type 0
CanBeMade files path = CanBe (map.get files path) (map.get files (parent_of path))

-- the bytes that a new writer of a file begins with
abbrev pub begun : Files → Components → Mode → List ℕ
begun files path mode.Fresh = []
begun files path mode.Append = bytes_at files path

-- the names are those that stand in the directory, each once, in any order
abbrev pub IsListing : Files → Components → List (List ℕ) → Type 0
IsListing files dir names =
    (name : List ℕ) → IsTrue (is_name name) → count_by (bytes_eq name) names ≡ (if map.contains_key files (dir ++ name ∷ []) then 1 else 0)

-- the writer of the file at the path is out
abbrev pub IsOutAt : Files → Components → Type 0
IsOutAt files path = map.get files path ≡ Some WriterOut

-- no writer is out
abbrev pub NoWriterOut : Files → Type 0
NoWriterOut files = (path : Components) → IsOutAt files path → ⊥

-- the path is one of these
abbrev pub IsOneOf : List Components → Components → Type 0
IsOneOf [] path = ⊥
IsOneOf (first ∷ others) path = (path ≡ first) ⊎ IsOneOf others path

-- writers are out at no other paths than these
abbrev pub AreOutWithin : List Components → Files → Type 0
AreOutWithin paths files = (path : Components) → IsOutAt files path → IsOneOf paths path

-- at every path stands the same kind of thing
abbrev pub AreOfOneKind : Files → Files → Type 0
AreOfOneKind files others = (path : Components) → kind_at files path ≡ kind_at others path

-- this stands at the path, and all else is as it was
pub record IsSetAt (path : Components) (node : Node) (old new : Files) : Type 0 where
  pub here : map.get new path ≡ Some node
  pub elsewhere : (other : Components) → (other ≡ path → ⊥) → map.get new other ≡ map.get old other
