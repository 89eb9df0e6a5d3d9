-- Which line of those that are first at the ports of a merge goes next.
use Rattle.std.specs.Prelude.{◌≡◌, ℕ, ◌+◌, ◌<◌, ◌==◌, List, [], ◌∷◌, Bool, false, None, drop, take, if◌then◌else◌}
use Rattle.std.specs.declared.cmp.Ordering.{Ordering}
use Rattle.ps_lines.specs.Lines.{CutsLine}
use Rattle.ut_sort.specs.Merging.{merged_all}
use Rattle.ut_sort.specs.Sides.{coming_lines, first_waiting, held_at, is_open_at}
use Rattle.ut_sort.specs.declared.choices.Choice.{Choice}
use Rattle.ut_sort.specs.declared.choices.Choice.TheVariants as choice
use Rattle.ut_sort.specs.declared.texts.Side.{Side}

-- the text's first line has so many bytes, and is whole
abbrev pub EndsFirstLine : List ℕ → ℕ → Type 0
EndsFirstLine text size = CutsLine text (take size text) (drop (size + 1) text)

-- lists without the first item of the one at this port
abbrev pub behind_first : ℕ → (ℕ → List (List ℕ)) → ℕ → List (List ℕ)
behind_first port lists other = if other == port then drop 1 (lists other) else lists other

module _ (cmp : List ℕ → List ℕ → Ordering) (unique : Bool) (sides : List Side) where
  -- of the sides up to this number, the first line of this port goes next, however their texts go on
  pub record Leads (count port size : ℕ) : Type 0 where
    pub before : port < count
    pub cut : EndsFirstLine (held_at sides port) size
    pub first : (texts : ℕ → List ℕ) → merged_all cmp unique (coming_lines sides texts) count
        ≡ take size (held_at sides port) ∷ merged_all cmp unique (behind_first port (coming_lines sides texts)) count

  -- it is left out
  pub record IsLeftOut (count port size : ℕ) : Type 0 where
    pub before : port < count
    pub cut : EndsFirstLine (held_at sides port) size
    pub same : (texts : ℕ → List ℕ) → merged_all cmp unique (coming_lines sides texts) count
        ≡ merged_all cmp unique (behind_first port (coming_lines sides texts)) count

  -- what a look at the sides up to this number comes to
  abbrev pub Chosen : ℕ → Choice → Type 0
  Chosen count choice.Wait = first_waiting 0 sides ≡ None → ⊥
  Chosen count choice.Done = (port : ℕ) → port < count → (held_at sides port ≡ []) × (is_open_at sides port ≡ false)
  Chosen count (choice.Put port size) = Leads count port size
  Chosen count (choice.Leave port size) = IsLeftOut count port size
