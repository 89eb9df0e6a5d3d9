-- No writer is out of a tree in memory before its first call.
use Rattle.std.proofs.Common.{◌≡◌, ℕ, List, [], ◌∷◌, ◌++◌, Bool, true, false, cond, nat_eq, map, Option, Some, None, sym, ap, ◌∙◌}
use Rattle.std.proofs.lemmas.List.{map-append}
use Rattle.std.specs.Cmp.Lexicographic.{pointwise}
use Rattle.ps_world.specs.Paths.{Components}
use Rattle.ps_world.specs.Files.{Node, WriterOut, NoWriterOut}
use Rattle.ps_fakes.specs.declared.stored.Stored.{Stored}
use Rattle.ps_fakes.specs.Trees.{Entry, files_of, folder, folders, named_path, node_at, node_of, placed, placed_of}
use Rattle.ps_fakes.proofs.FindLemmas.{get_first}

-- what a caller enters is a file that is in, or a directory
node_in_place : (bytes : Option (List ℕ)) → node_of bytes ≡ WriterOut → ⊥
node_in_place None is = cc
node_in_place (Some bytes) is = cc

first_in_place : (test : Bool) (node : Node) (others : Option Node) → (node ≡ WriterOut → ⊥) → (others ≡ Some WriterOut → ⊥) → cond test (Some node) others ≡ Some WriterOut → ⊥
first_in_place true node others first rest is = first (cc)
first_in_place false node others first rest is = rest is

folders_in_place : (dirs : List Components) (path : Components) → node_at (map folder dirs) path ≡ Some WriterOut → ⊥
folders_in_place [] path is = cc
folders_in_place (dir ∷ dirs) path is = first_in_place (pointwise (pointwise nat_eq) path dir) _ _ (λ never. cc) (folders_in_place dirs path) is

entries_in_place : (entries : List Entry) (dirs : List Components) (path : Components) → node_at (map placed entries ++ map folder dirs) path ≡ Some WriterOut → ⊥
entries_in_place [] dirs path is = folders_in_place dirs path is
entries_in_place (entry ∷ entries) dirs path is =
    first_in_place (pointwise (pointwise nat_eq) path (named_path entry.0)) (node_of entry.1) _ (node_in_place entry.1) (entries_in_place entries dirs path) is

settled : (stored : List Stored) (entries : List Entry) (home : Components) → map placed_of stored ≡ map placed entries ++ folders home (map placed entries) → NoWriterOut (files_of stored)
settled stored entries home is path out =
    entries_in_place entries _ path (ap (λ all. node_at all path) (sym is) ∙ sym (get_first (map placed_of stored) path) ∙ out)

-- none is out of entries, and the directories above them
pub no_writer_out : (stored above all : List Stored) (entries : List Entry) (home : Components) → all ≡ stored ++ above → map placed_of stored ≡ map placed entries
    → map placed_of above ≡ folders home (map placed_of stored) → NoWriterOut (files_of all)
no_writer_out stored above all entries home whole entered behind =
    settled all entries home
    (ap (map placed_of) whole ∙ map-append placed_of stored above ∙ ap (λ front. front ++ map placed_of above) entered ∙ ap (λ back. map placed entries ++ back) (behind ∙ ap (folders home) entered))
