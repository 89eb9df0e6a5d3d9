-- What else is refused of items that are a script: a `${` without a form (XCU 2.6.2), and a simple command with a command substitution
-- beside an assigning expansion (own). The code reads each word once for its form, and those of a command that substitutes once more.
use Rattle.std.specs.Prelude.{◌≡◌, ℕ, ◌≤◌, ◌<◌, zero, suc, Bool, true, false, ◌&&◌, ◌||◌, List, [], ◌∷◌, ◌++◌}
use Rattle.std.specs.declared.option.Option.{Option}
use Rattle.std.specs.declared.option.Option.TheVariants.{None, Some}
use Rattle.sh_parse.specs.Pieces.{WordViews}
use Rattle.sh_parse.specs.Places.{begins_piece}
use Rattle.sh_parse.specs.Grammar.{is_sub_open}
use Rattle.sh_parse.specs.Stops.{Begins, offset_of}
use Rattle.sh_parse.specs.declared.items.Item.{Item}
use Rattle.sh_parse.specs.declared.items.Item.TheVariants as item
use Rattle.sh_parse.specs.declared.items.Span.{Span}
use Rattle.sh_parse.specs.declared.items.WordKind.{WordKind}
use Rattle.sh_parse.specs.declared.pieces.Slot.TheVariants as place
use Rattle.sh_parse.specs.declared.misuses.Misuse.{Misuse}
use Rattle.sh_parse.specs.declared.misuses.Misuse.TheVariants as misuse

-- at this offset a word has its first `${` without a form
pub record IsIllFormed (views : WordViews) (items : List Item) (offset : ℕ) : Type 0 where
  pub before : List Item
  pub kind : WordKind
  pub at : Span
  pub behind : List Item
  pub whole : items ≡ before ++ item.Word kind at ∷ behind
  pub fault : views.fault at ≡ Some offset

-- a command may begin behind these items: a `(` may stand there
abbrev pub MayBegin : WordViews → List Item → Type 0
MayBegin views items = (most : ℕ) × Begins views most (items ++ item.Open 0 ∷ [])

-- the items that a simple command goes on with, outside its command substitutions
abbrev pub goes_on_command : Item → Bool
goes_on_command (item.Word _ _) = true
goes_on_command (item.IoNumber _ _) = true
goes_on_command (item.Redirect _ _) = true
goes_on_command _ = false

abbrev pub when : Bool → List Item → List Item
when true items = items
when false items = []

-- the items of the simple command that begins here, without those inside its command substitutions; so many of these are open
abbrev pub own_items : ℕ → List Item → List Item
own_items inside [] = []
own_items zero (item.SubOpen at ∷ rest) = item.SubOpen at ∷ own_items 1 rest
own_items zero (first ∷ rest) = when (goes_on_command first) (first ∷ own_items zero rest)
own_items (suc inside) (item.SubOpen at ∷ rest) = own_items (suc (suc inside)) rest
own_items (suc inside) (item.SubClose ∷ rest) = own_items inside rest
own_items (suc inside) (first ∷ rest) = own_items (suc inside) rest

abbrev pub substitutes : List Item → Bool
substitutes [] = false
substitutes (first ∷ rest) = is_sub_open first || substitutes rest

-- an expansion in the word assigns a variable
abbrev pub item_assigns : WordViews → Item → Bool
item_assigns views (item.Word kind at) = views.assigns at
item_assigns views _ = false

abbrev pub assigns : WordViews → List Item → Bool
assigns views [] = false
assigns views (first ∷ rest) = item_assigns views first || assigns views rest

-- the simple command that begins here has a command substitution beside an assigning expansion
abbrev pub mixes : WordViews → List Item → Bool
mixes views items = substitutes (own_items 0 items) && assigns views (own_items 0 items)

-- at this offset a simple command begins that does
pub record IsMixed (views : WordViews) (items : List Item) (offset : ℕ) : Type 0 where
  pub before : List Item
  pub first : Item
  pub behind : List Item
  pub whole : items ≡ before ++ first ∷ behind
  pub may_begin : MayBegin views before
  pub begins : begins_piece place.First first ≡ true
  pub mixed : mixes views (first ∷ behind) ≡ true
  pub place : offset ≡ offset_of first

-- this is the first of all; at one offset an ill-formed expansion is told
pub record IsFirstForm (views : WordViews) (items : List Item) (offset : ℕ) : Type 0 where
  pub is : IsIllFormed views items offset
  pub of_forms : (other : ℕ) → IsIllFormed views items other → offset ≤ other
  pub of_mixes : (other : ℕ) → IsMixed views items other → offset ≤ other

pub record IsFirstMix (views : WordViews) (items : List Item) (offset : ℕ) : Type 0 where
  pub is : IsMixed views items offset
  pub of_forms : (other : ℕ) → IsIllFormed views items other → offset < other
  pub of_mixes : (other : ℕ) → IsMixed views items other → offset ≤ other

-- nothing is misused
pub record NoMisuse (views : WordViews) (items : List Item) : Type 0 where
  pub formed : (offset : ℕ) → IsIllFormed views items offset → ⊥
  pub unmixed : (offset : ℕ) → IsMixed views items offset → ⊥

-- the first misuse, where there is one
abbrev pub FirstMisuse : WordViews → List Item → Option Misuse → Type 0
FirstMisuse views items None = NoMisuse views items
FirstMisuse views items (Some (misuse.Form offset)) = IsFirstForm views items offset
FirstMisuse views items (Some (misuse.Mix offset)) = IsFirstMix views items offset
