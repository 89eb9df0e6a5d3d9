-- The lines of a text that have an expression (XCU grep). The code looks in the whole text for what such a line needs, and for the ends
-- of a line only around where that stands; the definition asks of each line.
use Rattle.std.specs.Prelude.{◌≡◌, ℕ, List, ◌∷◌, ◌++◌, Bool, true, false}
use Rattle.std.specs.List.{AllByRecursion}
use Rattle.ps_lines.specs.Lines.{has_newline, is_closed, lines}
use Rattle.ps_lines.specs.declared.newlines.TheConstants.{NEWLINE}
use Rattle.ut_regex.specs.Spans.{Has}
use Rattle.ut_regex.specs.Tree.{Tree}

-- none of the lines has the expression
abbrev pub Lack : Bool → Bool → Tree → List (List ℕ) → Type 0
Lack fold whole re texts = AllByRecursion (λ line. ¬ Has fold whole line re) texts

-- the text is these whole lines, this line with its newline, and this rest
pub record CutsOut (text before line rest : List ℕ) : Type 0 where
  pub ends : is_closed before ≡ true
  pub plain : has_newline line ≡ false
  pub whole : text ≡ before ++ (line ++ NEWLINE ∷ rest)

-- of the text's lines this one is the first of which something holds
pub record IsFirst (Holds : List ℕ → Type 0) (text before line rest : List ℕ) : Type 0 where
  pub cut : CutsOut text before line rest
  pub passed : AllByRecursion (λ line. ¬ Holds line) (lines before)
  pub has : Holds line
