-- The code's own words for marks.
use Rattle.std.specs.Prelude.{ℕ, ◌-◌, ◌<◌, List, [], ◌∷◌, ◌++◌, length}
use Rattle.std.specs.declared.option.Option.{Option}
use Rattle.std.specs.declared.option.Option.TheVariants.{None, Some}
use Rattle.std.specs.declared.result.Result.TheVariants.{Err}
use Rattle.sh_lex.specs.Texts.{unspliced}
use Rattle.sh_lex.specs.Lexes.{Tokens}
use Rattle.sh_lex.specs.Marks.{Marks}
use Rattle.sh_lex.specs.declared.parts.Fault.{Fault}
use Rattle.sh_lex.specs.declared.lexing.marks.Mark.{Mark}
use Rattle.sh_lex.specs.declared.lexing.marks.Mark.TheVariants as mark
use Rattle.sh_lex.specs.declared.lexing.marks.Found.{Found}
use Rattle.sh_lex.specs.declared.lexing.marks.Found.TheVariants as found

abbrev pub marks_of : Option Mark → List Mark
marks_of None = []
marks_of (Some one) = one ∷ []

-- the marks of a word, with those inside it
abbrev pub word_marks : ℕ → List ℕ → List Mark → List ℕ → List Mark
word_marks total before inside behind =
    mark.WordBegin (total - length (unspliced before)) ∷ (inside ++ mark.WordEnd (total - length behind) ∷ [])

-- what is left is less, these marks stand before its own, and what is refused there is refused
pub record LeadsTo (total : ℕ) (text : List ℕ) (marks : List Mark) (rest : List ℕ) : Type 0 where
  pub less : length rest < length text
  pub before : (more : List Mark) → Marks total rest more → Marks total text (marks ++ more)
  pub refused : (fault : Fault) → Tokens total rest (Err fault) → Tokens total text (Err fault)

-- what begins at the text
abbrev pub LeadsOn : ℕ → List ℕ → Found → Type 0
LeadsOn total text found.End = Marks total text []
LeadsOn total text (found.Gap rest) = LeadsTo total text [] rest.now
LeadsOn total text (found.Token one rest) = LeadsTo total text (one ∷ []) rest.now
LeadsOn total text (found.Word inside rest) = LeadsTo total text (word_marks total text inside.items rest.now) rest.now
