-- What the code knows of the marks behind a place.
use Rattle.std.specs.Prelude.{◌≡◌, ℕ, List, [], ◌∷◌, drop, reverse}
use Rattle.sh_lex.specs.declared.lexing.marks.Mark.{Mark}
use Rattle.sh_lex.specs.declared.lexing.marks.Mark.TheVariants as mark
use Rattle.sh_parse.specs.Texts.{items_of}
use Rattle.sh_parse.specs.declared.texts.Behind.{Behind}

-- the ends of the words that are open before these marks, from the innermost
abbrev pub open_ends : List Mark → List ℕ
open_ends [] = []
open_ends (mark.WordBegin _ ∷ rest) = drop 1 (open_ends rest)
open_ends (mark.WordEnd to ∷ rest) = to ∷ open_ends rest
open_ends (mark.Token _ ∷ rest) = open_ends rest
open_ends (mark.SubOpen _ ∷ rest) = open_ends rest
open_ends (mark.SubClose ∷ rest) = open_ends rest
open_ends (mark.Close ∷ rest) = open_ends rest

-- what is known is that of these marks
pub record IsBehind (text : List ℕ) (marks : List Mark) (behind : Behind) : Type 0 where
  pub ends : reverse behind.ends.items ≡ open_ends marks
  pub items : reverse behind.items.items ≡ items_of text marks
