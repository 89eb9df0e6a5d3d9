-- The writers of files: they are lent, take what they get, and go back.
use Rattle.std.specs.Prelude.{◌≡◌, ◌≤◌, ℕ, ◌+◌, List, [], ◌∷◌, ◌++◌, false, true, length, map, Option, Some, IfSome, IsErrOf, OnOk, Result, Ok, Err}
use Rattle.std.specs.FinMap as map
use Rattle.std.specs.Option.{option_map}
use Rattle.ps_world.specs.Counts.{Rose}
use Rattle.ps_world.specs.Files.{Files, IsOneOf, WriterOut, bytes_at}
use Rattle.ps_world.specs.Paths.{Components}
use Rattle.ps_world.specs.TreeState.{AreOut, TreeState}
use Rattle.ps_world.specs.declared.error.WorldErr.{WorldErr}
use Rattle.ps_world.specs.declared.error.WorldErr.TheVariants as error
use Rattle.fl_engines.specs.OwnEnds.{each_of}
use Rattle.fl_commands.specs.Readers.{has_count}
use Rattle.fl_commands.specs.Writers.{ChangesOnly, filled}

-- no path is there twice
abbrev pub AreApart : List Components → Type 0
AreApart [] = Unit {0}
AreApart (path ∷ paths) = (IsOneOf paths path → ⊥) × AreApart paths

-- each of these paths is one of those
abbrev pub AreAmong : List Components → List Components → Type 0
AreAmong paths others = (path : Components) → IsOneOf paths path → IsOneOf others path

-- the writers of the files at these paths are out
abbrev pub out_at : List Components → Files → Files
out_at [] files = files
out_at (path ∷ paths) files = out_at paths (map.insert files path WriterOut)

-- each text is what is told, where it is
abbrev pub AreTold : List (Option (List ℕ)) → List (List ℕ) → Type 0
AreTold [] [] = Unit {0}
AreTold [] (text ∷ texts) = ⊥
AreTold (told ∷ others) [] = ⊥
AreTold (told ∷ others) (text ∷ texts) = IfSome told (λ written. text ≡ written) × AreTold others texts

-- each of these paths is a file of what its writer tells
pub record Fills (paths : List Components) (told : List (Option (List ℕ))) (held held' : Option Files) : Type 0 where
  pub texts : List (List ℕ)
  pub told_are : AreTold told texts
  pub is : held' ≡ option_map (filled paths texts) held

-- these writers are lent, each behind what its file holds, and have failed never
pub record Begins {W : Type 0} (of_writer : W → Option (List ℕ)) (writer_faults : W → ℕ) (paths : List Components) (old new : TreeState) (writers : List (ℕ × W)) : Type 0 where
  pub texts : (files : Files) → old.held ≡ Some files → each_of of_writer writers ≡ map (λ path. Some (bytes_at files path)) paths
  pub count : length writers ≡ length paths
  pub fresh : has_count (each_of writer_faults writers) ≡ false
  pub out : (first : TreeState) (count : ℕ) → AreOut count first old → AreOut (length writers + count) first new
  pub held : new.held ≡ option_map (out_at paths) old.held

-- these writers went back, and this was the first error of their returns
pub record Returns {W : Type 0} (of_writer : W → Option (List ℕ)) (writer_faults : W → ℕ) (paths : List Components) (writers : List (ℕ × W)) (old new : TreeState) (before now : ℕ)
    (outcome : Result Unit WorldErr) : Type 0 where
  pub out : (first : TreeState) (count : ℕ) → AreOut (length writers + count) first old → AreOut count first new
  pub fills : OnOk outcome (Fills paths (each_of of_writer writers) old.held new.held)
  pub none : writers ≡ [] → new ≡ old
  pub kept : ChangesOnly paths old.held new.held
  pub later : before ≤ now
  pub calm : has_count (each_of writer_faults writers) ≡ false → OnOk outcome (now ≡ before)
  pub failed : IsErrOf outcome error.Failed → Rose before now
  pub rose : has_count (each_of writer_faults writers) ≡ true → Rose before now

-- the first error of two answers
abbrev pub earlier : {T E : Type 0} → Result T E → Result T E → Result T E
earlier (Ok done) other = other
earlier (Err error) other = Err error
