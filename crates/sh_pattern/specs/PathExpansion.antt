-- Pathname expansion (XCU 2.13.3). The definition says which texts name something that is there; the code goes from
-- directory to directory, component by component.
use Rattle.std.specs.Prelude.{◌≡◌, ℕ, ◌==◌, Bool, true, false, List, [], ◌∷◌, ◌++◌, ◌⊎◌, map, Option, Some, None, if◌then◌else◌}
use Rattle.std.specs.List.{list_any, slice_split}
use Rattle.std.specs.List.Sorted.{IsStrictlySortedBy}
use Rattle.std.specs.Ordering.{nat_cmp}
use Rattle.std.specs.Cmp.Lexicographic.{slice_cmp}
use Rattle.ps_world.specs.Paths.{Components, slash, is_slash, is_name, stays, goes_up, parent_of}
use Rattle.ps_world.specs.Files.{Files, kind_at}
use Rattle.ps_world.specs.Places.{start_of}
use Rattle.ps_world.specs.declared.tree.Kind.{Kind}
use Rattle.ps_world.specs.declared.tree.Kind.TheVariants as kind
use Rattle.sh_pattern.specs.declared.marks.Mark.{Mark}
use Rattle.sh_pattern.specs.declared.elements.Element.{Element}
use Rattle.sh_pattern.specs.Reading.{Reads, is_special}
use Rattle.sh_pattern.specs.Fits.{Fits}

-- the text without its marks
abbrev pub bytes_of : List Mark → List ℕ
bytes_of text = map (λ mark. mark.byte) text

-- a slash, quoted or not
abbrev pub is_slash_mark : Mark → Bool
is_slash_mark mark = is_slash mark.byte

-- no slash stands in the text
abbrev pub HasNoSlash : List Mark → Type 0
HasNoSlash text = list_any is_slash_mark text ≡ false

-- the components of a marked text: it is cut at every slash, before any pattern is read
abbrev pub components_of : List Mark → List (List Mark)
components_of text = slice_split is_slash_mark text

-- an unquoted `*`, `?` or `[` stands in the text
abbrev pub has_special : List Mark → Bool
has_special text = list_any is_special text

abbrev pub begins_with_period : List ℕ → Bool
begins_with_period [] = false
begins_with_period (byte ∷ bytes) = byte == 46

-- the name fits the component's pattern; a period that begins it fits only one that begins the component
pub record FitsComponent (component : List Mark) (name : List ℕ) : Type 0 where
  pub pattern : List Element
  pub reads : Reads component pattern
  pub fits : Fits pattern name
  pub period : begins_with_period name ≡ true → begins_with_period (bytes_of component) ≡ true

-- a path, where something is there
abbrev pub existing : Kind → Components → Option Components
existing kind.Missing path = None
existing kind.File path = Some path
existing kind.Dir path = Some path

-- what a component names in a directory (XBD 4.13)
abbrev pub place_in : Files → Components → List ℕ → Option Components
place_in files dir name =
    if stays name then Some dir else
    if goes_up name then Some (parent_of dir) else
    existing (kind_at files (dir ++ name ∷ [])) (dir ++ name ∷ [])

-- a component without pattern bytes names itself
pub record LeadsAsWritten (files : Files) (dir : Components) (component : List Mark) (name : List ℕ) (place : Components) : Type 0 where
  pub plain : has_special component ≡ false
  pub spelled : name ≡ bytes_of component
  pub named : place_in files dir name ≡ Some place

-- one with pattern bytes stands for each name in the directory that fits
pub record LeadsByPattern (files : Files) (dir : Components) (component : List Mark) (name : List ℕ) (place : Components) : Type 0 where
  pub special : has_special component ≡ true
  pub proper : is_name name ≡ true
  pub fits : FitsComponent component name
  pub named : place_in files dir name ≡ Some place

-- from a directory, the component leads to this place under this name
pub record Leads (files : Files) (dir : Components) (component : List Mark) (name : List ℕ) (place : Components) : Type 0 where
  pub directory : kind_at files dir ≡ kind.Dir
  pub how : LeadsAsWritten files dir component name place ⊎ LeadsByPattern files dir component name place

-- from a directory, the components lead one after another to something that is there, and this is its text
abbrev pub Names : Files → Components → List (List Mark) → List ℕ → Type 0
Names files dir [] text = ⊥
Names files dir (last ∷ []) text = (place : Components) × Leads files dir last text place
Names files dir (component ∷ next ∷ others) text =
    (name : List ℕ) × (place : Components) × (rest : List ℕ) × Leads files dir component name place × Names files place (next ∷ others) rest × (text ≡ name ++ (slash ∷ rest))

-- the text is one that the marked text stands for, in these files and from this working directory
abbrev pub IsNamed : Files → Components → List Mark → List ℕ → Type 0
IsNamed files home text name = Names files (start_of home (bytes_of text)) (components_of text) name

-- the text is among these
abbrev pub IsAmong : List (List ℕ) → List ℕ → Type 0
IsAmong [] text = ⊥
IsAmong (first ∷ others) text = (first ≡ text) ⊎ IsAmong others text

-- the texts that the marked text stands for, each once, in the order of their bytes
pub record AreNamed (files : Files) (home : Components) (text : List Mark) (names : List (List ℕ)) : Type 0 where
  pub each : (name : List ℕ) → IsAmong names name → IsNamed files home text name
  pub all : (name : List ℕ) → IsNamed files home text name → IsAmong names name
  pub sorted : IsStrictlySortedBy (slice_cmp nat_cmp) names

-- what pathname expansion gives: a text without pattern bytes isn't looked up, and one that stands for nothing stays
pub data Expands (files : Files) (home : Components) : List Mark → List (List ℕ) → Type 0 where
  unlooked : {text : List Mark} → has_special text ≡ false → Expands files home text (bytes_of text ∷ [])
  matched : {text : List Mark} {first : List ℕ} {others : List (List ℕ)} → has_special text ≡ true → AreNamed files home text (first ∷ others) → Expands files home text (first ∷ others)
  unmatched : {text : List Mark} → has_special text ≡ true → AreNamed files home text [] → Expands files home text (bytes_of text ∷ [])
