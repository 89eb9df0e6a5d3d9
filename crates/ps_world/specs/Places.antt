-- Path resolution (XBD 4.13), for a path as a script writes it. The code asks the tree about one component after another, about what
-- stands at the last place always, and about its parent where nothing does.
use Rattle.std.specs.Prelude.{◌≡◌, ℕ, List, [], ◌∷◌, ◌++◌, ◌<◌, length, Bool, true, false, not, Option, Some, None, if◌then◌else◌, codes}
use Rattle.std.specs.Option.{IfSome, option_map_or}
use Rattle.std.specs.Str.{bytes_eq}
use Rattle.ps_world.specs.Paths.{Components, is_slash, has_slash, components, stays, goes_up, parent_of}
use Rattle.ps_world.specs.Files.{Files, CanBeMade, IsDirAt, IsFileAt, IsOutAt, kind_at}
use Rattle.ps_world.specs.declared.tree.Kind.{Kind}
use Rattle.ps_world.specs.declared.tree.Kind.TheVariants as kind
use Rattle.ps_world.specs.declared.places.Place.{Place}
use Rattle.ps_world.specs.declared.places.Place.TheVariants as place

-- the text is one component
pub record IsLastComponent (text : List ℕ) : Type 0 where
  pub alone : components text ≡ text ∷ []
  pub part : has_slash text ≡ false

-- the text's first component, and what comes after its slash
pub record BeginsWithComponent (text component rest : List ℕ) : Type 0 where
  pub components_are : components text ≡ component ∷ components rest
  pub part : has_slash component ≡ false
  pub shorter : length rest < length text

-- a directory that is there, and else nothing
abbrev pub directory : Kind → Components → Option Components
directory kind.Missing path = None
directory kind.File path = None
directory kind.Dir path = Some path

-- the directory that a component leads to, where it leads to one
abbrev pub enter : Files → Components → List ℕ → Option Components
enter files dir component =
    if stays component then Some dir else
    if goes_up component then Some (parent_of dir) else
    directory (kind_at files (dir ++ component ∷ [])) (dir ++ component ∷ [])

-- what is named where a path ends in a directory
abbrev pub ending_at : Kind → Components → Place
ending_at kind.Missing path = place.Missing
ending_at kind.File path = place.Missing
ending_at kind.Dir path = place.Dir path

-- a name that nothing has can be made, where what is above it is a directory
abbrev pub makeable : Kind → Components → Place
makeable kind.Missing path = place.Missing
makeable kind.File path = place.Missing
makeable kind.Dir path = place.Makeable path

-- what a name is, by what stands there and what is above it
abbrev pub named : Kind → Kind → Components → Place
named kind.Missing above path = makeable above path
named kind.File above path = place.File path
named kind.Dir above path = place.Dir path

-- what the last component of a path names
abbrev pub last_place : Files → Components → List ℕ → Place
last_place files dir component =
    if stays component then ending_at (kind_at files dir) dir else
    if goes_up component then ending_at (kind_at files (parent_of dir)) (parent_of dir) else
    named (kind_at files (dir ++ component ∷ [])) (kind_at files dir) (dir ++ component ∷ [])

-- components one after another, from a directory; each but the last has to lead to a directory
abbrev pub resolve_from : Files → Components → List (List ℕ) → Place
resolve_from files dir [] = ending_at (kind_at files dir) dir
resolve_from files dir (component ∷ []) = last_place files dir component
resolve_from files dir (component ∷ next ∷ others) =
    option_map_or (λ inner. resolve_from files inner (next ∷ others)) (enter files dir component) place.Missing

-- the path of the device that holds nothing
unfoldable pub is_null_path : Components → Bool
is_null_path (folder ∷ name ∷ []) = if bytes_eq folder (codes "dev") then bytes_eq name (codes "null") else false
is_null_path path = false

-- whatever stands at the path of `/dev/null`, it is the null device
abbrev pub nulled : Place → Place
nulled place.Missing = place.Missing
nulled (place.Makeable path) = if is_null_path path then place.Null else place.Makeable path
nulled (place.Dir path) = if is_null_path path then place.Null else place.Dir path
nulled (place.File path) = if is_null_path path then place.Null else place.File path
nulled place.Null = place.Null

-- a text that begins with a slash starts at the root, another at the working directory
abbrev pub start_of : Components → List ℕ → Components
start_of home [] = home
start_of home (byte ∷ bytes) = if is_slash byte then [] else home

-- the text is the null device's own
abbrev pub is_null_text : List ℕ → Bool
is_null_text text = bytes_eq text (codes "/dev/null")

-- what the text of a path names, in these files and from this working directory
abbrev pub resolve : Files → Components → List ℕ → Place
resolve files home [] = place.Missing
resolve files home (byte ∷ bytes) =
    if is_null_text (byte ∷ bytes) then place.Null else
    nulled (resolve_from files (start_of home (byte ∷ bytes)) (components (byte ∷ bytes)))

-- where it was told, a directory is there
abbrev pub IsDirIfTold : Option Files → Bool → Components → Type 0
IsDirIfTold held is_told path = is_told ≡ true → IfSome held (λ files. kind_at files path ≡ kind.Dir)

-- the text needs files to name a place: it isn't empty, and isn't the null device's own
abbrev pub needs_files : List ℕ → Bool
needs_files [] = false
needs_files (byte ∷ bytes) = not (is_null_text (byte ∷ bytes))

-- what is named is there, and allows what is asked of it: a missing name can be made, a directory listed, and a file read and made anew
-- unless its writer is out
abbrev pub StandsIn : Files → Place → Type 0
StandsIn files place.Missing = Unit {0}
StandsIn files (place.Makeable path) = CanBeMade files path
StandsIn files (place.Dir path) = IsDirAt files path
StandsIn files (place.File path) = (kind_at files path ≡ kind.File) × ((IsOutAt files path → ⊥) → IsFileAt files path × CanBeMade files path)
StandsIn files place.Null = Unit {0}

-- what stands at the null device's path isn't named by it
abbrev pub IsNoNullPath : Place → Type 0
IsNoNullPath place.Missing = Unit {0}
IsNoNullPath (place.Makeable path) = is_null_path path ≡ false
IsNoNullPath (place.Dir path) = is_null_path path ≡ false
IsNoNullPath (place.File path) = is_null_path path ≡ false
IsNoNullPath place.Null = Unit {0}
