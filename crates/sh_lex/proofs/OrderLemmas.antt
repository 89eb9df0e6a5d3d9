-- The tokens of a text stand in it one behind the other.
use Rattle.std.proofs.Common.{◌≡◌, ◌<◌, ◌≤◌, ◌-◌, ◌==◌, ◌&&◌, ℕ, Bool, true, false, List, [], ◌∷◌, length, Result, Ok, Err, refl, sym, ◌∙◌, ap, subst, arith}
use Rattle.sh_lex.specs.Texts.{fronts, unspliced}
use Rattle.sh_lex.specs.Acts.{Found, gap, open_parenthesis, close_parenthesis, token, word}
use Rattle.sh_lex.specs.Operators.{lexeme, lexeme_at}
use Rattle.sh_lex.specs.Reads.{act, Outcome, past, Reads, goes_on, reads_inner, refused_inside, has_ended, offended}
use Rattle.sh_lex.specs.Lexes.{Lexes, Tokens, one_word, token_between, after_token, no_token, skips, opens, closes, takes, takes_word, refused_word, refused_token}
use Rattle.sh_lex.specs.Laws.{InOrder, no_more, one_more}
use Rattle.sh_lex.proofs.Fronts.{length-unspliced}
use Rattle.sh_lex.proofs.Shrinking.{BeginsWord, LeavesLess}
use Rattle.sh_lex.proofs.Readings.{word-shorter}
use Rattle.sh_lex.proofs.Scripts.{less_at}
use Rattle.sh_lex.specs.declared.bytes.TheConstants.{BACKSLASH, NEWLINE}
use Rattle.sh_lex.specs.declared.parts.Fault.{Fault}
use Rattle.sh_lex.specs.declared.parts.Construct.{Construct}
use Rattle.sh_lex.specs.declared.tokens.Token.{Token}
use Rattle.sh_lex.specs.declared.tokens.TokenKind.{TokenKind}
use Rattle.sh_lex.specs.declared.tokens.TokenKind.TheVariants as kind
use Rattle.sh_lex.specs.declared.tokens.Op.TheVariants as op

-- a text without backslash-newlines at its beginning stays so
twice_pair : (first second : ℕ) (text : List ℕ) (test : Bool) → ((first == BACKSLASH) && (second == NEWLINE)) ≡ test
    → unspliced (unspliced text) ≡ unspliced text → unspliced (unspliced (first ∷ second ∷ text)) ≡ unspliced (first ∷ second ∷ text)
unfolding unspliced fronts
twice_pair first second text true e more = simp e more
twice_pair first second text false e more = simp e refl

pub unspliced-twice : (text : List ℕ) → unspliced (unspliced text) ≡ unspliced text
unfolding unspliced fronts
unspliced-twice [] = refl
unspliced-twice (first ∷ []) = refl
unspliced-twice (first ∷ second ∷ text) =
    twice_pair first second text ((first == BACKSLASH) && (second == NEWLINE)) refl (unspliced-twice text)

-- what begins at a text leaves less of it than stands behind its backslash-newlines
pub begins_same : (text : List ℕ) → lexeme (unspliced text) ≡ lexeme text
begins_same text = ap lexeme_at (unspliced-twice text)

less_unspliced : (text : List ℕ) (found : Found) → lexeme text ≡ found → LeavesLess (unspliced text) found
less_unspliced text found e = less_at (unspliced text) found (sym e ∙ sym (begins_same text))

-- a construct is read by what its text does to it
read_by : (construct : Construct) (text other : List ℕ) (end : Outcome) → act construct text ≡ act construct other
    → Reads construct text end → Reads construct other end
read_by construct text other end same (goes_on e reads) = goes_on (sym same ∙ e) reads
read_by construct text other end same (reads_inner e inside outside) = reads_inner (sym same ∙ e) inside outside
read_by construct text other end same (refused_inside e inside) = refused_inside (sym same ∙ e) inside
read_by construct text other end same (has_ended e) = has_ended (sym same ∙ e)
read_by construct text other end same (offended e) = offended (sym same ∙ e)

word_acts : (text : List ℕ) → BeginsWord text → act one_word text ≡ act one_word (unspliced text)
word_acts text (byte, (rest, (begins, in_word))) =
    let again : unspliced (byte ∷ rest) ≡ byte ∷ rest = subst (λ front. unspliced front ≡ front) begins (unspliced-twice text) in
    simp (begins, again, in_word)

pub word_again : (text rest : List ℕ) → lexeme text ≡ word → Reads one_word text (past rest) → Reads one_word (unspliced text) (past rest)
word_again text rest e reads =
    read_by one_word text (unspliced text) (past rest) (word_acts text (less_at text word (sym e))) reads

word_less : (text rest : List ℕ) → lexeme text ≡ word → Reads one_word text (past rest) → length rest < length (unspliced text)
word_less text rest e reads =
    word-shorter (unspliced text) rest (less_unspliced text word e) (word_again text rest e reads)

-- from an earlier offset on
earlier : {end later : ℕ} {tokens : List Token} (from : ℕ) → from ≤ later → InOrder end later tokens → InOrder end from tokens
earlier from h (no_more k) = no_more (omega arith)
earlier from h (one_more k less rest) = one_more (omega arith) less rest

abbrev OrderedFrom : ℕ → List ℕ → Result (List Token) Fault → Type 0
OrderedFrom total text (Ok tokens) = InOrder total (total - length text) tokens
OrderedFrom total text (Err fault) = Unit {0}

-- a gap, and a token, in front
gap_first : (total : ℕ) (text rest : List ℕ) (end : Result (List Token) Fault) → length rest < length text
    → OrderedFrom total rest end → OrderedFrom total text end
gap_first total text rest (Ok tokens) less behind = earlier (total - length text) (omega arith) behind
gap_first total text rest (Err fault) less behind = tt

token_first : (total : ℕ) (kind : TokenKind) (text rest : List ℕ) (end : Result (List Token) Fault) → length text ≤ total
    → length rest < length (unspliced text) → OrderedFrom total rest end
    → OrderedFrom total text (after_token (token_between total kind text rest) end)
token_first total kind text rest (Ok tokens) within less behind =
    one_more (omega (arith, length-unspliced text)) (omega (arith, length-unspliced text)) behind
token_first total kind text rest (Err fault) within less behind = tt

module _ {total : ℕ} where
  ordered : {text : List ℕ} {end : Result (List Token) Fault} → length text ≤ total → Tokens total text end → OrderedFrom total text end
  ordered h (no_token e) = no_more (omega arith)
  ordered h (skips {text = text} {rest = rest} {end = end} e more) =
      let less : length rest < length text = less_at text (gap rest) (sym e) in
      gap_first total text rest end less (ordered (omega arith) more)
  ordered h (opens {text = text} {rest = rest} {end = end} e more) =
      let less : length rest < length text = less_at text (open_parenthesis rest) (sym e) in
      token_first total (kind.Op op.Open) text rest end h (less_unspliced text (open_parenthesis rest) e) (ordered (omega arith) more)
  ordered h (closes {text = text} {rest = rest} {end = end} e more) =
      let less : length rest < length text = less_at text (close_parenthesis rest) (sym e) in
      token_first total (kind.Op op.Close) text rest end h (less_unspliced text (close_parenthesis rest) e) (ordered (omega arith) more)
  ordered h (takes {text = text} {rest = rest} {kind = kind} {end = end} e more) =
      let less : length rest < length text = less_at text (token kind rest) (sym e) in
      token_first total kind text rest end h (less_unspliced text (token kind rest) e) (ordered (omega arith) more)
  ordered h (takes_word {text = text} {rest = rest} {end = end} e reads more) =
      let less : length rest < length (unspliced text) = word_less text rest e reads in
      token_first total kind.Word text rest end h less (ordered (omega (arith, less, length-unspliced text, h)) more)
  ordered h (refused_word e reads) = tt
  ordered h (refused_token e) = tt

pub tokens_in_order : (text : List ℕ) (tokens : List Token) → Lexes text tokens → InOrder (length text) 0 tokens
tokens_in_order text tokens lexes = earlier 0 (omega arith) (ordered (omega arith) lexes.read)
