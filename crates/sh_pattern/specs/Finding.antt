-- A walk through the directories, by which the parts of path expansion speak to one another.
use Rattle.std.specs.Prelude.{◌≡◌, ◌↔◌, ◌⊎◌, ℕ, List, [], ◌∷◌, ◌++◌}
use Rattle.ps_world.specs.Paths.{Components}
use Rattle.ps_world.specs.Files.{Files}
use Rattle.sh_pattern.specs.declared.marks.Mark.{Mark}
use Rattle.sh_pattern.specs.declared.expansion.Found.{Found}
use Rattle.sh_pattern.specs.PathExpansion.{FitsComponent, IsAmong, Leads, Names}

-- the place was found, under this text
abbrev pub IsFound : List Found → Components → List ℕ → Type 0
IsFound [] place text = ⊥
IsFound (first ∷ others) place text = ((first.place ≡ place) × (first.text.items ≡ text)) ⊎ IsFound others place text

-- something was found under this text
abbrev pub IsText : List Found → List ℕ → Type 0
IsText found text = (place : Components) × IsFound found place text

-- what is found now is what was, and this place under this text
abbrev pub Adds : List Found → List Found → Components → List ℕ → Type 0
Adds old new added spelled =
    (place : Components) (text : List ℕ) → IsFound new place text ↔ (IsFound old place text ⊎ ((added ≡ place) × (spelled ≡ text)))

-- from a directory that was found under the text before, the component leads to a place, under that text, its name and the ending
pub record LeadsOn (files : Files) (dir : Components) (before : List ℕ) (component : List Mark) (ending : List ℕ) (place : Components) (text : List ℕ) : Type 0 where
  pub name : List ℕ
  pub leads : Leads files dir component name place
  pub spelled : before ++ (name ++ ending) ≡ text

-- the same, from one of those that were found
pub record OneLeadsOn (files : Files) (from : List Found) (component : List Mark) (ending : List ℕ) (place : Components) (text : List ℕ) : Type 0 where
  pub dir : Components
  pub before : List ℕ
  pub from_here : IsFound from dir before
  pub on : LeadsOn files dir before component ending place text

-- what is found now is what was, and what the component leads to from here
abbrev pub Follows : Files → Found → List Mark → List ℕ → List Found → List Found → Type 0
Follows files from component ending old new =
    (place : Components) (text : List ℕ) → IsFound new place text ↔ (IsFound old place text ⊎ LeadsOn files from.place from.text.items component ending place text)

-- what is found is what the component leads to from those
abbrev pub FollowsAll : Files → List Found → List Mark → List ℕ → List Found → Type 0
FollowsAll files from component ending found =
    (place : Components) (text : List ℕ) → IsFound found place text ↔ OneLeadsOn files from component ending place text

-- one of these names fits, and leads here
pub record OneFits (names : List (List ℕ)) (from : Found) (component : List Mark) (ending : List ℕ) (place : Components) (text : List ℕ) : Type 0 where
  pub name : List ℕ
  pub listed : IsAmong names name
  pub fits : FitsComponent component name
  pub there : from.place ++ name ∷ [] ≡ place
  pub spelled : from.text.items ++ (name ++ ending) ≡ text

-- what is found now is what was, and those of the names that fit
abbrev pub AddsFitting : List (List ℕ) → Found → List Mark → List ℕ → List Found → List Found → Type 0
AddsFitting names from component ending old new =
    (place : Components) (text : List ℕ) → IsFound new place text ↔ (IsFound old place text ⊎ OneFits names from component ending place text)

-- from one of those that were found, the components that are left name something
pub record GoesOn (files : Files) (found : List Found) (left : List (List Mark)) (text : List ℕ) : Type 0 where
  pub dir : Components
  pub before : List ℕ
  pub rest : List ℕ
  pub from_here : IsFound found dir before
  pub names : Names files dir left rest
  pub whole : text ≡ before ++ rest
