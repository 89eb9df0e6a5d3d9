-- The option letters of a command, as contracts see them.
use Rattle.std.specs.Prelude.{ℕ, List, Bool, ◌==◌, if◌then◌else◌}
use Rattle.std.specs.List.{list_any}
use Rattle.ut_options.specs.declared.letters.Letters.{Letters}
use Rattle.ut_options.specs.declared.letters.Takes.{Takes}
use Rattle.ut_options.specs.declared.letters.Takes.TheVariants as taking

-- the letters without an argument, those with one, and whether a word of a hyphen and digits alone is a count
pub record Row : Type 0 where
  pub plain : List ℕ
  pub valued : List ℕ
  pub counts : Bool

abbrev pub row_of : Letters → Row
row_of letters = record { plain = letters.plain.now; valued = letters.valued.now; counts = letters.counts }

-- the byte is one of the letters
abbrev pub is_among : List ℕ → ℕ → Bool
is_among letters letter = list_any (λ one. one == letter) letters

-- what a letter takes
abbrev pub takes : Row → ℕ → Takes
takes row letter =
    if is_among row.plain letter then taking.Nothing else
    if is_among row.valued letter then taking.Argument else
    taking.Unlisted
