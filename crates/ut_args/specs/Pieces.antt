-- Texts between separators. The code cuts off one piece after another.
use Rattle.std.specs.Prelude.{ℕ, List, [], ◌∷◌, Option, Some, None, if◌then◌else◌}
use Rattle.std.specs.List.{onto_first}
use Rattle.ut_options.specs.Rows.{is_among}

-- the bytes before the first separator, and those from it on
abbrev pub before_separator : List ℕ → List ℕ → List ℕ
before_separator separators [] = []
before_separator separators (byte ∷ rest) = if is_among separators byte then [] else byte ∷ before_separator separators rest

abbrev pub from_separator : List ℕ → List ℕ → List ℕ
from_separator separators [] = []
from_separator separators (byte ∷ rest) = if is_among separators byte then byte ∷ rest else from_separator separators rest

-- the texts before and behind the first separator
abbrev pub cut_by : List ℕ → List ℕ → Option (List ℕ × List ℕ)
cut_by before [] = None
cut_by before (separator ∷ behind) = Some (before, behind)

abbrev pub cut_at : List ℕ → List ℕ → Option (List ℕ × List ℕ)
cut_at separators text = cut_by (before_separator separators text) (from_separator separators text)

-- the texts between the separators of a text, in order; one where there is no separator
abbrev pub pieces : List ℕ → List ℕ → List (List ℕ)
pieces separators [] = [] ∷ []
pieces separators (byte ∷ rest) =
    if is_among separators byte then [] ∷ pieces separators rest else onto_first byte (pieces separators rest)
