-- The entries that a tree in memory is made of, and what stands where.
use Rattle.std.specs.Prelude.{◌≡◌, ℕ, ◌-◌, List, option_to_list, [], ◌∷◌, ◌++◌, length, take, map, nat_eq, Bool, false, if◌then◌else◌, Option, Some, None}
use Rattle.std.specs.Borrow.{Bor}
use Rattle.std.specs.Global.{Vec}
use Rattle.std.specs.Option.{option_map, option_map_or, unwrap_or}
use Rattle.std.specs.List.{flat_map, range_with_len}
use Rattle.std.specs.FinMap as finite
use Rattle.std.specs.Cmp.Lexicographic.{pointwise}
use Rattle.ps_world.specs.Paths.{Components, path_of}
use Rattle.ps_world.specs.Files.{Files, Node, Bytes, Directory, WriterOut}
use Rattle.ps_world.specs.TreeState.{TreeState}
use Rattle.ps_fakes.specs.declared.stored.Content.{Content}
use Rattle.ps_fakes.specs.declared.stored.Content.TheVariants as content
use Rattle.ps_fakes.specs.declared.stored.Stored.{Stored}
use Rattle.ps_fakes.specs.declared.reads.Reads.{Reads}
use Rattle.ps_fakes.specs.declared.source.MemSource.{MemSource}
use Rattle.ps_fakes.specs.declared.tree.MemTree.{MemTree}
use Rattle.ps_fakes.specs.Reads.{reads_at}

-- an entry as a caller writes it: the text of its path, and a file's bytes, or nothing for a directory
abbrev pub Entry : Type 0
Entry = List ℕ × Option (List ℕ)

-- an entry as it stands in a tree
abbrev pub Placed : Type 0
Placed = Components × Node

-- entries in vectors
abbrev pub entries_of : List (Vec ℕ × Option (Vec ℕ)) → List Entry
entries_of entries = map (λ entry. (entry.0.items, option_map (λ bytes. bytes.items) entry.1)) entries

-- entries in slices
abbrev pub rows_of : List (Bor (List ℕ) × Option (Bor (List ℕ))) → List Entry
rows_of rows = map (λ row. (row.0.now, option_map (λ bytes. bytes.now) row.1)) rows

-- a file of these bytes, or a directory
abbrev pub node_of : Option (List ℕ) → Node
node_of None = Directory
node_of (Some bytes) = Bytes bytes

-- the path that a text spells; the root for a text that spells none
abbrev pub named_path : List ℕ → Components
named_path text = unwrap_or (path_of text) []

-- the text spells this path
abbrev pub names_path : List ℕ → Components → Bool
names_path text path = option_map_or (λ named. pointwise (pointwise nat_eq) path named) (path_of text) false

abbrev pub placed : Entry → Placed
placed entry = (named_path entry.0, node_of entry.1)

-- so many directories above a path, its parent first
abbrev pub climb : Components → ℕ → List Components
climb path count = map (λ steps. take (length path - steps) path) (range_with_len 1 count)

-- the directories above a path at every height, up to the root
abbrev pub above : Components → List Components
above path = climb path (length path)

-- a path as a directory
abbrev pub folder : Components → Placed
folder path = (path, Directory)

-- the directories above the entries, and home with those above it
abbrev pub folders : Components → List Placed → List Placed
folders home entries = map folder (flat_map (λ entry. above entry.0) entries ++ (above home ++ home ∷ []))

-- the files that these entries, home and all directories above them make; at a path that stands twice the first entry counts
abbrev pub planted : Components → List Placed → Files
planted home entries = finite.from_entries (entries ++ folders home entries)

-- what stands at a path among entries: the first one there
abbrev pub node_at : List Placed → Components → Option Node
node_at [] path = None
node_at (entry ∷ entries) path = if pointwise (pointwise nat_eq) path entry.0 then Some entry.1 else node_at entries path

-- a tree of these entries, with this home, before any reader was lent
abbrev pub fresh_state : List ℕ → List Entry → TreeState
fresh_state home entries = record { home = named_path home; held = Some (planted (named_path home) (map placed entries)); lent = 0; back = 0 }

-- what is stored, as it stands at its path
abbrev pub node_in : Content → Node
node_in (content.File bytes) = Bytes bytes.items
node_in content.Folder = Directory
node_in content.Out = WriterOut

abbrev pub placed_of : Stored → Placed
placed_of stored = (stored.path, node_in stored.content)

abbrev pub files_of : List Stored → Files
files_of stored = finite.from_entries (map placed_of stored)

-- the bytes of a file that is in
abbrev pub file_in : Option Node → Option (List ℕ)
file_in None = None
file_in (Some (Bytes bytes)) = Some bytes
file_in (Some Directory) = None
file_in (Some WriterOut) = None

-- the bytes of the file whose path the text spells
abbrev pub file_of : Files → List ℕ → Option (List ℕ)
file_of files text = option_map_or (λ path. file_in (finite.get files path)) (path_of text) None

-- what the tree is to its callers
abbrev pub state_of : MemTree → TreeState
state_of tree = record { home = tree.home; held = Some (files_of tree.stored.items); lent = tree.lent; back = tree.back }

-- how the readers of a path give their bytes
abbrev pub reads_of : MemTree → Components → Reads
reads_of tree path = reads_at tree.read_plans.items path

-- what was planned for the tree's calls and its readers stays
pub record KeepsPlans (old new : MemTree) : Type 0 where
  pub fails : new.plan.fails ≡ old.plan.fails
  pub seed : new.plan.seed ≡ old.plan.seed
  pub reads : new.read_plans ≡ old.read_plans

-- the reader is one of these bytes that gives them as it is planned, before its first read
pub record GivesAs (reads : Reads) (bytes : List ℕ) (reader : MemSource) : Type 0 where
  pub bytes_are : reader.bytes.items ≡ bytes
  pub at : reader.at ≡ 0
  pub most : reader.most ≡ reads.most
  pub calls : reader.plan.calls ≡ 0
  pub fails : reader.plan.fails.items ≡ option_to_list reads.fail_at
