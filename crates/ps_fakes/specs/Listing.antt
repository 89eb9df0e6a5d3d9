-- The names in a directory. (own) The code goes through all that is stored once.
use Rattle.std.specs.Prelude.{ℕ, List, [], ◌∷◌, ◌++◌, Bool, if◌then◌else◌, Option, Some, None}
use Rattle.std.specs.List.{list_any}
use Rattle.std.specs.Str.{bytes_eq}
use Rattle.ps_world.specs.Paths.{Components}
use Rattle.ps_fakes.specs.declared.stored.Stored.{Stored}

-- the name of a path in a directory, where the path stands right below it
abbrev pub name_under : Components → Components → Option (List ℕ)
name_under [] [] = None
name_under [] (name ∷ []) = Some name
name_under [] (part ∷ next ∷ parts) = None
name_under (folder ∷ dir) [] = None
name_under (folder ∷ dir) (part ∷ parts) = if bytes_eq folder part then name_under dir parts else None

-- the name is among these
abbrev pub is_listed : List (List ℕ) → List ℕ → Bool
is_listed names name = list_any (bytes_eq name) names

-- the names with one more, if it isn't among them
abbrev pub with_name : List (List ℕ) → Option (List ℕ) → List (List ℕ)
with_name names None = names
with_name names (Some name) = if is_listed names name then names else names ++ name ∷ []

-- the names with those of what is stored in a directory
abbrev pub with_names : Components → List (List ℕ) → List Stored → List (List ℕ)
with_names dir names [] = names
with_names dir names (stored ∷ others) = with_names dir (with_name names (name_under dir stored.path)) others
