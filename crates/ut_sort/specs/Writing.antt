-- Sorted lines of which some are written.
use Rattle.std.specs.Prelude.{◌≡◌, ℕ, List, ◌++◌, drop, Bool, true}
use Rattle.ps_lines.specs.Lines.{text_of_lines}
use Rattle.ps_lines.specs.Texts.{BeginsWith}
use Rattle.ut_sort.specs.Places.{lines_in}
use Rattle.ut_sort.specs.declared.places.LinePlace.{LinePlace}
use Rattle.ut_sort.specs.declared.writing.SortedLines.{SortedLines}

-- what is still to be written, where so many lines are
abbrev pub left_behind : List ℕ → List LinePlace → ℕ → List ℕ
left_behind text places given = text_of_lines (lines_in text (drop given places))

abbrev pub left_of : SortedLines → List ℕ
left_of sorted = left_behind sorted.text.items sorted.places.items sorted.given

-- old grew to new: what was to be written before is what was written and what is to be written now; where memory was wanted, a front of it was
pub record PutSome (was now old new : List ℕ) (whole : Bool) : Type 0 where
  pub kept : BeginsWith new old
  pub grew : whole ≡ true → new ++ now ≡ old ++ was
  pub part : BeginsWith (old ++ was) new
