-- What the classes of commands say of texts that are cut (PaSh's classes, made exact).
use Rattle.std.specs.Prelude.{◌≡◌, List, ℕ, [], ◌∷◌, ◌++◌, ◌||◌, Bool, true, false, not}
use Rattle.ps_lines.specs.Lines.{is_cutlist, is_closed}
use Rattle.ut_args.specs.declared.classes.Class.{Class}
use Rattle.ut_args.specs.declared.classes.Class.TheVariants as class
use Rattle.ut_args.specs.declared.classes.Seam.{Seam}
use Rattle.ut_args.specs.declared.classes.Seam.TheVariants as seam
use Rattle.ut_args.specs.declared.invocations.Inv.{Inv}
use Rattle.ut_args.specs.declared.invocations.Inv.TheVariants as inv
use Rattle.fl_classes.specs.Utilities.{output_of, selects_of}
use Rattle.fl_classes.specs.Aggregates.{map_of, joined_maps, finish_of}
use Rattle.fl_classes.specs.Kinds.{is_count}

-- a text may be cut so: anywhere, or at an end of lines
abbrev pub MayBeCut : Seam → List ℕ → List ℕ → Type 0
MayBeCut seam.Bytes front back = Unit {0}
MayBeCut seam.Lines front back = is_cutlist (front ∷ back ∷ []) ≡ true

-- something is selected in a text where it is in one of its parts
abbrev pub SelectsByParts : Seam → Inv → Type 0
SelectsByParts seam inv = (front back : List ℕ) → MayBeCut seam front back
    → selects_of inv ((front ++ back) ∷ []) ≡ (selects_of inv (front ∷ []) || selects_of inv (back ∷ []))

-- the map is the output, and that of a text is those of its parts, joined
pub record IsStateless (seam : Seam) (inv : Inv) : Type 0 where
  pub whole : (text : List ℕ) → output_of inv (text ∷ []) ≡ map_of inv text
  pub joins : (front back : List ℕ) → MayBeCut seam front back → map_of inv (front ++ back) ≡ map_of inv front ++ map_of inv back
  pub selects : SelectsByParts seam inv

-- the output is made of the map, and the map of a text of those of its parts, where it is cut at an end of lines
pub record IsParallel (inv : Inv) : Type 0 where
  pub whole : (text : List ℕ) → output_of inv (text ∷ []) ≡ finish_of inv (map_of inv text)
  pub joins : (front back : List ℕ) → MayBeCut seam.Lines front back → map_of inv (front ++ back) ≡ joined_maps inv (map_of inv front) (map_of inv back)
  pub selects : SelectsByParts seam.Lines inv

-- what a class says of an invocation
abbrev pub IsOfClass : Class → Inv → Type 0
IsOfClass (class.S seam) inv = IsStateless seam inv
IsOfClass class.P inv = IsParallel inv
IsOfClass class.N inv = Unit {0}
IsOfClass class.E inv = Unit {0}

-- the map is the output; that for a closed text is closed, and that for the empty text is empty
pub record KeepsClosed (inv : Inv) : Type 0 where
  pub whole : (text : List ℕ) → output_of inv (text ∷ []) ≡ map_of inv text
  pub closed : (text : List ℕ) → is_closed text ≡ true → is_closed (map_of inv text) ≡ true
  pub none : map_of inv [] ≡ []

-- what an aggregator joins: maps, and what it has made of such
pub data IsGathered (inv : Inv) : List ℕ → Type 0 where
  from_map : (text : List ℕ) → IsGathered inv (map_of inv text)
  from_two : {one other : List ℕ} → IsGathered inv one → IsGathered inv other → IsGathered inv (joined_maps inv one other)

-- the aggregator is commutative and associative on these
pub record IsCommutative (inv : Inv) : Type 0 where
  pub commutes : (one other : List ℕ) → IsGathered inv one → IsGathered inv other → joined_maps inv one other ≡ joined_maps inv other one
  pub associates : (one two three : List ℕ) → IsGathered inv one → IsGathered inv two → IsGathered inv three
      → joined_maps inv (joined_maps inv one two) three ≡ joined_maps inv one (joined_maps inv two three)

-- the invocations whose aggregator is so: counts are added up, and a merge without -u keeps every line
abbrev pub is_commutative : Inv → Bool
is_commutative (inv.Wc wc) = true
is_commutative (inv.Grep grep) = is_count grep.args.report
is_commutative (inv.Sort sort) = not sort.args.unique
is_commutative other = false
