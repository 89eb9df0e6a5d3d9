-- Lists in order, of any order.
use Rattle.std.specs.Prelude.{◌≡◌, List, [], ◌∷◌, Bool, true, false, not, ⊤, if◌then◌else◌, take}
use Rattle.std.specs.List.{filter}
use Rattle.std.specs.declared.cmp.Ordering.{Ordering}
use Rattle.std.specs.Ordering.{is_lt, is_eq}

module _ {Item : Type 0} (cmp : Item → Item → Ordering) where
  -- the items that are equal to this one, in the order in which they stand
  abbrev pub equals : Item → List Item → List Item
  equals item items = filter (λ other. is_eq (cmp item other)) items

  -- none of these is put before this one
  abbrev pub NoneBefore : Item → List Item → Type 0
  NoneBefore item [] = ⊤
  NoneBefore item (other ∷ others) = (is_lt (cmp other item) ≡ false) × NoneBefore item others

  -- no item stands behind one that it is put before
  abbrev pub InOrder : List Item → Type 0
  InOrder [] = ⊤
  InOrder (item ∷ others) = NoneBefore item others × InOrder others

  -- of equal items all, or the first one
  abbrev pub kept : Bool → List Item → List Item
  kept false items = items
  kept true items = take 1 items

  -- the list is these items in order: of each set of equal ones it has all, in the order in which they came, or the first one alone
  pub record IsSorted (unique : Bool) (items list : List Item) : Type 0 where
    pub order : InOrder list
    pub each : (item : Item) → equals item list ≡ kept unique (equals item items)

  -- the one such list: an item stands before the first of the others that isn't put before it
  abbrev pub insert : Item → List Item → List Item
  insert item [] = item ∷ []
  insert item (other ∷ others) = if is_lt (cmp other item) then other ∷ insert item others else item ∷ other ∷ others

  abbrev pub others_of : Bool → Item → List Item → List Item
  others_of unique item items = if unique then filter (λ other. not (is_eq (cmp item other))) items else items

  abbrev pub sorted : Bool → List Item → List Item
  sorted unique [] = []
  sorted unique (item ∷ items) = insert item (others_of unique item (sorted unique items))
