-- What files hold, and what texts are read as. Meanings are told by the one function of what each text is, which the parser's law says is there.
use Rattle.std.specs.Prelude.{◌≡◌, ℕ, List, Option, Some, None}
use Rattle.ps_world.specs.Files.{Files, bytes_at}
use Rattle.ps_world.specs.Paths.{Components}
use Rattle.ps_world.specs.Told.{IsFront}
use Rattle.sh_parse.specs.Outcomes.{AreOutcomes, HasOutcome, Readings, refused}
use Rattle.sh_parse.specs.declared.scripts.ParseRefusal.{ParseRefusal}
use Rattle.sh_parse.specs.declared.scripts.ParseRefusal.TheVariants as parse

-- the text is a whole one, or its front of so many bytes
abbrev pub IsFrontOf : List ℕ → ℕ → List ℕ → Type 0
IsFrontOf whole most text = (rest : Option (List ℕ)) × IsFront (Some whole) rest text most

-- what was read of the file at a path, if there is one
abbrev pub IsLoaded : Files → Option Components → ℕ → Option (List ℕ) → Type 0
IsLoaded files None most None = Unit {0}
IsLoaded files None most (Some text) = ⊥
IsLoaded files (Some path) most None = ⊥
IsLoaded files (Some path) most (Some text) = IsFrontOf (bytes_at files path) most text

-- one text is read as the other
pub record AreReadAlike (one other : List ℕ) : Type 0 where
  pub same : (reads : Readings) → AreOutcomes reads → reads one ≡ reads other

-- why there is no script of the text: it is refused so; want of memory is free
abbrev pub IsUnread : List ℕ → ParseRefusal → Type 0
IsUnread text (parse.Refused cause) = HasOutcome text (refused cause)
IsUnread text parse.Memory = Unit {0}
