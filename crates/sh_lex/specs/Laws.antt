-- What the definition of tokens comes to, in words of its own (XCU 2.3, 2.10.2): how they stand in the text.
use Rattle.std.specs.Prelude.{◌≡◌, ℕ, ◌<◌, ◌≤◌, ◌-◌, Bool, true, false, not, List, [], ◌∷◌, ◌++◌, ◌==◌, ◌||◌, ◌&&◌, length}
use Rattle.std.specs.Char.{is_ascii_digit}
use Rattle.std.specs.declared.option.Option.TheVariants.{Some}
use Rattle.sh_lex.specs.Bytes.{is_blank, ends_word}
use Rattle.sh_lex.specs.Texts.{unspliced, behind_run}
use Rattle.sh_lex.specs.Numbers.{begins_with}
use Rattle.sh_lex.specs.Operators.{has_no_word}
use Rattle.sh_lex.specs.Reads.{past, Reads}
use Rattle.sh_lex.specs.Lexes.{Lexes}
use Rattle.sh_lex.specs.declared.bytes.TheConstants.{BACKSLASH, NEWLINE, HASH, AND, PIPE, SEMI, OPEN, CLOSE, LESS, GREAT}
use Rattle.sh_lex.specs.declared.parts.Nest.{Nest}
use Rattle.sh_lex.specs.declared.parts.Construct.TheVariants as part
use Rattle.sh_lex.specs.declared.parts.Spot.TheVariants as spot
use Rattle.sh_lex.specs.declared.tokens.Op.{Op}
use Rattle.sh_lex.specs.declared.tokens.Op.TheVariants as op
use Rattle.sh_lex.specs.declared.tokens.Token.{Token}
use Rattle.sh_lex.specs.declared.tokens.TokenKind.{TokenKind}
use Rattle.sh_lex.specs.declared.tokens.TokenKind.TheVariants as kind

-- the tokens stand one behind the other between two offsets, and none is empty
pub data InOrder (end : ℕ) : ℕ → List Token → Type 0 where
  no_more : {from : ℕ} → from ≤ end → InOrder end from []
  one_more : {from : ℕ} {token : Token} {rest : List Token} → from ≤ token.from → token.from < token.to → InOrder end token.to rest
      → InOrder end from (token ∷ rest)

-- so the tokens of a text stand in it
abbrev pub TokensAreInOrder : List ℕ → Type 0
TokensAreInOrder text = (tokens : List Token) → Lexes text tokens → InOrder (length text) 0 tokens

-- the bytes of an operator
abbrev pub spelling : Op → List ℕ
spelling op.AndIf = AND ∷ AND ∷ []
spelling op.OrIf = PIPE ∷ PIPE ∷ []
spelling op.Semi = SEMI ∷ []
spelling op.Pipe = PIPE ∷ []
spelling op.Open = OPEN ∷ []
spelling op.Close = CLOSE ∷ []
spelling op.Less = LESS ∷ []
spelling op.Great = GREAT ∷ []
spelling op.DGreat = GREAT ∷ GREAT ∷ []
spelling op.GreatAnd = GREAT ∷ AND ∷ []

-- these bytes begin the text, backslash-newlines before them and among them left out, and the rest is left
abbrev pub Spells : List ℕ → List ℕ → List ℕ → Type 0
Spells [] text rest = text ≡ rest
Spells (byte ∷ more) text rest = (after : List ℕ) × ((unspliced text ≡ byte ∷ after) × Spells more after rest)

-- no operator is this one with what comes next
abbrev pub IsLongestOp : Op → List ℕ → Type 0
IsLongestOp which rest =
    (longer : Op) (byte : ℕ) → spelling longer ≡ spelling which ++ byte ∷ [] → begins_with byte (unspliced rest) ≡ false

-- a byte that begins a word
abbrev pub begins_word : List ℕ → Bool
begins_word [] = false
begins_word (byte ∷ rest) = not (ends_word byte) && not (byte == HASH)

-- the text begins with a token of this kind, which goes up to the rest: no operator is longer, an IoNumber has all digits there are and
-- stands directly before `<` or `>`, and a word ends where the next byte is none of a word
abbrev pub IsLongest : TokenKind → List ℕ → List ℕ → Type 0
IsLongest kind.Newline text rest = Spells (NEWLINE ∷ []) text rest
IsLongest (kind.Op which) text rest = Spells (spelling which) text rest × IsLongestOp which rest
IsLongest kind.IoNumber text rest =
    (rest ≡ behind_run is_ascii_digit text) × ((begins_with LESS (unspliced rest) || begins_with GREAT (unspliced rest)) ≡ true)
IsLongest kind.Word text rest = (begins_word text ≡ true) × (has_no_word (unspliced rest) ≡ true)

-- a comment's bytes, and what stands behind a comment
abbrev pub has_no_newline : List ℕ → Bool
has_no_newline [] = true
has_no_newline (byte ∷ rest) = not (byte == NEWLINE) && has_no_newline rest

abbrev pub ends_line : List ℕ → Bool
ends_line [] = true
ends_line (byte ∷ rest) = byte == NEWLINE

-- what is left of a text of `total` bytes, place by place: a backslash-newline that is removed, a blank, a comment up to a newline or the
-- end, or the longest token that begins there
pub data Stand (total : ℕ) : List ℕ → List Token → Type 0 where
  at_end : Stand total [] []
  removed : {rest : List ℕ} {tokens : List Token} → Stand total rest tokens → Stand total (BACKSLASH ∷ NEWLINE ∷ rest) tokens
  blank : {byte : ℕ} {rest : List ℕ} {tokens : List Token} → is_blank byte ≡ true → Stand total rest tokens
      → Stand total (byte ∷ rest) tokens
  comment : (bytes rest : List ℕ) {tokens : List Token} → has_no_newline bytes ≡ true → ends_line rest ≡ true → Stand total rest tokens
      → Stand total (HASH ∷ (bytes ++ rest)) tokens
  one_token : {kind : TokenKind} (bytes rest : List ℕ) {tokens : List Token} → IsLongest kind (bytes ++ rest) rest → Stand total rest tokens
      → Stand total (bytes ++ rest) (record { kind = kind; from = total - length (bytes ++ rest); to = total - length rest } ∷ tokens)

-- so the tokens of a text stand in it
abbrev pub TokensStand : List ℕ → Type 0
TokensStand text = (tokens : List Token) → Lexes text tokens → Stand (length text) text tokens

-- a `$( )` ends at a `)`, and there too with anything else behind it, and where no more levels are open (XCU 2.6.3)
abbrev pub SubstitutionsEnd : Type 0
SubstitutionsEnd = (nest inside : Nest) (left place : ℕ) (text after other : List ℕ) → inside.levels ≤ nest.levels
    → (nest.in_braces ≡ false → inside.in_braces ≡ false) → Reads (part.Commands nest (Some left) spot.Between) text (past after)
    → (front : List ℕ) × (text ≡ front ++ CLOSE ∷ after)
    × Reads (part.Commands inside (Some place) spot.Between) (front ++ CLOSE ∷ other) (past other)
