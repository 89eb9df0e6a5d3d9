-- The tokens of a text with those of its command substitutions at their place (XCU 2.6.3), as marks along it: where words begin and
-- end, the other tokens, and the ends of substitutions. A word's own substitutions stand between its ends.
use Rattle.std.specs.Prelude.{◌≡◌, ℕ, ◌-◌, List, [], ◌∷◌, ◌++◌, length, if◌then◌else◌}
use Rattle.std.specs.declared.option.Option.TheVariants.{Some}
use Rattle.sh_lex.specs.Bytes.{ends_word}
use Rattle.sh_lex.specs.Texts.{unspliced}
use Rattle.sh_lex.specs.Acts.{Found, goes, enters, ends, nothing, gap, open_parenthesis, close_parenthesis, token, word}
use Rattle.sh_lex.specs.Operators.{lexeme}
use Rattle.sh_lex.specs.Reads.{act}
use Rattle.sh_lex.specs.Lexes.{one_word, token_between, HasTokens}
use Rattle.sh_lex.specs.declared.tokens.Token.{Token}
use Rattle.sh_lex.specs.declared.tokens.TokenKind.{TokenKind}
use Rattle.sh_lex.specs.declared.tokens.TokenKind.TheVariants as kind
use Rattle.sh_lex.specs.declared.tokens.Op.TheVariants as op
use Rattle.sh_lex.specs.declared.parts.Construct.{Construct}
use Rattle.sh_lex.specs.declared.parts.Construct.TheVariants as part
use Rattle.sh_lex.specs.declared.parts.Spot.{Spot}
use Rattle.sh_lex.specs.declared.parts.Spot.TheVariants as spot
use Rattle.sh_lex.specs.declared.lexing.marks.Mark.{Mark}
use Rattle.sh_lex.specs.declared.lexing.marks.Mark.TheVariants as mark
use Rattle.sh_lex.specs.declared.lexing.marks.Entry.{Entry}
use Rattle.sh_lex.specs.declared.lexing.marks.Entry.TheVariants as entry

-- how a construct opens in another: a subshell's parenthesis among the tokens of a `$( )`, a `$( )`, or anything else
abbrev pub entry_in : ℕ → Construct → Entry
entry_in left (part.Commands _ _ spot.Between) = entry.Parenthesis
entry_in left _ = entry.Substitution left

abbrev pub entry_of : Construct → Construct → Entry
entry_of (part.Commands _ (Some left) _) outer = entry_in left outer
entry_of _ outer = entry.Other

-- where it opens and where it has ended
abbrev pub opening : ℕ → List ℕ → List ℕ → Entry → List Mark
opening total text rest entry.Parenthesis = mark.Token (token_between total (kind.Op op.Open) text rest) ∷ []
opening total text rest (entry.Substitution left) = mark.SubOpen (total - left) ∷ []
opening total text rest entry.Other = []

abbrev pub closing : Entry → List Mark
closing entry.Parenthesis = mark.Close ∷ []
closing (entry.Substitution _) = mark.SubClose ∷ []
closing entry.Other = []

-- what begins among the tokens of a `$( )`
abbrev pub begun : ℕ → List ℕ → Found → List Mark
begun total text word = mark.WordBegin (total - length (unspliced text)) ∷ []
begun total text (token kind rest) = mark.Token (token_between total kind text rest) ∷ []
begun total text _ = []

-- a word in a `$( )` ends where its next byte is no part of it, and there the next token may begin
abbrev pub behind_word : ℕ → List ℕ → List ℕ → List Mark
behind_word total text [] = mark.WordEnd (total - length text) ∷ begun total text (lexeme text)
behind_word total text (byte ∷ _) =
    if ends_word byte then mark.WordEnd (total - length text) ∷ begun total text (lexeme text) else []

abbrev pub seen_at : ℕ → Spot → List ℕ → List Mark
seen_at total spot.Between text = begun total text (lexeme text)
seen_at total spot.Begin text = behind_word total text (unspliced text)
seen_at total spot.Name text = behind_word total text (unspliced text)
seen_at total spot.ValueBegin text = behind_word total text (unspliced text)
seen_at total spot.Value text = behind_word total text (unspliced text)
seen_at total spot.Elsewhere text = behind_word total text (unspliced text)

-- the marks at one step of a construct
abbrev pub seen : ℕ → Construct → List ℕ → List Mark
seen total (part.Commands _ (Some _) at) text = seen_at total at text
seen total _ text = []

-- the marks in a construct that is read, and what is left behind it
pub data Marked (total : ℕ) : Construct → List ℕ → List Mark → List ℕ → Type 0 where
  marks_on : {construct next : Construct} {text rest left : List ℕ} {found : List Mark}
      → act construct text ≡ goes next rest → Marked total next rest found left
      → Marked total construct text (seen total construct text ++ found) left
  marks_inner : {construct inner outer : Construct} {text rest after left : List ℕ} {inside outside : List Mark}
      → act construct text ≡ enters inner outer rest → Marked total inner rest inside after → Marked total outer after outside left
      → Marked total construct text
      (seen total construct text ++ (opening total text rest (entry_of inner outer)
      ++ (inside ++ (closing (entry_of inner outer) ++ outside)))) left
  marks_end : {construct : Construct} {text rest : List ℕ}
      → act construct text ≡ ends rest → Marked total construct text (seen total construct text) rest

-- the marks of what is left of a text of `total` bytes
pub data Marks (total : ℕ) : List ℕ → List Mark → Type 0 where
  no_mark : {text : List ℕ} → lexeme text ≡ nothing → Marks total text []
  skips : {text rest : List ℕ} {found : List Mark} → lexeme text ≡ gap rest → Marks total rest found → Marks total text found
  opens : {text rest : List ℕ} {found : List Mark} → lexeme text ≡ open_parenthesis rest → Marks total rest found
      → Marks total text (mark.Token (token_between total (kind.Op op.Open) text rest) ∷ found)
  closes : {text rest : List ℕ} {found : List Mark} → lexeme text ≡ close_parenthesis rest → Marks total rest found
      → Marks total text (mark.Token (token_between total (kind.Op op.Close) text rest) ∷ found)
  takes : {text rest : List ℕ} {kind : TokenKind} {found : List Mark} → lexeme text ≡ token kind rest → Marks total rest found
      → Marks total text (mark.Token (token_between total kind text rest) ∷ found)
  takes_word : {text rest : List ℕ} {inside found : List Mark} → lexeme text ≡ word → Marked total one_word text inside rest
      → Marks total rest found
      → Marks total text (mark.WordBegin (total - length (unspliced text)) ∷ (inside ++ mark.WordEnd (total - length rest) ∷ found))

-- the text is lexed, and has these marks and no others
pub record HasMarks (text : List ℕ) (marks : List Mark) : Type 0 where
  pub lexed : (tokens : List Token) × HasTokens text tokens
  pub marked : Marks (length text) text marks
  pub only : (others : List Mark) → Marks (length text) text others → others ≡ marks
