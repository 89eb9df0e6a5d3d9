-- How a construct goes on: as tokens of a `$( )`, as a word among them, or as anything else. So each mark that begins a word of a `$( )` has
-- one that ends it.
use Rattle.std.proofs.Common.{◌≡◌, ℕ, suc, Bool, true, false, not, Option, None, Some, ◌+◌, ◌-◌, List, [], ◌∷◌, ◌++◌, ◌==◌, ◌&&◌, if◌then◌else◌, length, drop, refl, sym, ◌∙◌, ap, subst, append_assoc}
use Rattle.std.specs.Prelude.{nat_lt}
use Rattle.ps_lines.specs.Bytes.{is_name_start, is_name_byte}
use Rattle.sh_lex.specs.Bytes.{ends_word}
use Rattle.sh_lex.specs.Texts.{unspliced, behind_quote, behind_backslash}
use Rattle.sh_lex.specs.Acts.{Act, goes, enters, ends, offends, Found, nothing, gap, open_parenthesis, close_parenthesis, token, word, offence}
use Rattle.sh_lex.specs.Operators.{lexeme}
use Rattle.sh_lex.specs.Dollars.{deeper, inside_braces, opening, substitution, parenthesis, introduced_by, dollar_by, dollar_at, after_dollar, name_at}
use Rattle.sh_lex.specs.DoubleQuotes.{double_quotes_at}
use Rattle.sh_lex.specs.Heads.{Head, whole, with_word, no_form, trims, brace_head}
use Rattle.sh_lex.specs.Braces.{single_quotes, quote_in_braces, backslash_in_braces, braces_at, braces_word_at, head_at}
use Rattle.sh_lex.specs.Arithmetic.{expression_at, closing_at, arithmetic_at, parentheses_at}
use Rattle.sh_lex.specs.Commands as scan
use Rattle.sh_lex.specs.Commands.{is_tilde_spot, spot_behind, spot_past, word_at, word_begin, between_at, in_word, in_commands}
use Rattle.sh_lex.specs.Reads.{act}
use Rattle.sh_lex.specs.Marks.{Marked, marks_on, marks_inner, marks_end, seen, seen_at, begun, behind_word, closing, entry_of}
use Rattle.sh_lex.specs.Marks as marks
use Rattle.sh_lex.specs.declared.lexing.marks.Mark.{Mark}
use Rattle.sh_lex.specs.declared.lexing.marks.Mark.TheVariants as mark
use Rattle.sh_lex.specs.declared.lexing.marks.Entry.{Entry}
use Rattle.sh_lex.specs.declared.lexing.marks.Entry.TheVariants as entry
use Rattle.sh_lex.specs.declared.parts.Nest.{Nest}
use Rattle.sh_lex.specs.declared.parts.Construct.{Construct}
use Rattle.sh_lex.specs.declared.parts.Construct.TheVariants as part
use Rattle.sh_lex.specs.declared.parts.Spot.{Spot}
use Rattle.sh_lex.specs.declared.parts.Spot.TheVariants as spot
use Rattle.sh_lex.specs.declared.parts.TheConstants.{MAX_LEVELS}
use Rattle.sh_lex.specs.declared.dollars.Introduced.{Introduced}
use Rattle.sh_lex.specs.declared.dollars.Introduced.TheVariants as introduced
use Rattle.sh_lex.specs.declared.bytes.TheConstants.{QUOTE, DOUBLE_QUOTE, BACKSLASH, BACKQUOTE, DOLLAR, CLOSE_BRACE, OPEN, CLOSE, TILDE, EQUALS, COLON}
use Rattle.sh_parse.specs.Texts.{word_end}
use Rattle.sh_parse.proofs.Agreeings.{IsWordSpot, past-spot, behind-spot}

pub data Kind : Type 0 where
  -- the tokens of a `$( )`
  among_tokens : Kind
  -- a word among them
  within_word : Kind
  elsewhere : Kind

abbrev pub kind_of_part : Construct → Kind
kind_of_part (part.Commands nest (Some opened) spot.Between) = among_tokens
kind_of_part (part.Commands nest (Some opened) spot.Begin) = within_word
kind_of_part (part.Commands nest (Some opened) spot.Name) = within_word
kind_of_part (part.Commands nest (Some opened) spot.ValueBegin) = within_word
kind_of_part (part.Commands nest (Some opened) spot.Value) = within_word
kind_of_part (part.Commands nest (Some opened) spot.Elsewhere) = within_word
kind_of_part (part.Commands nest None at) = elsewhere
kind_of_part part.Name = elsewhere
kind_of_part (part.DoubleQuotes nest left) = elsewhere
kind_of_part (part.BraceHead nest left quoted) = elsewhere
kind_of_part (part.Braces nest left quoted) = elsewhere
kind_of_part (part.Arithmetic nest left) = elsewhere
kind_of_part (part.Parentheses nest left) = elsewhere

-- no word opens with a construct that opens in another
abbrev pub IsNoWord : Construct → Type 0
IsNoWord inner = kind_of_part inner ≡ within_word → ⊥

-- a construct of this kind goes on as one of this kind, and ends only where this holds
abbrev pub Does : Kind → Type 0 → Act → Type 0
Does sort Ended (goes next rest) = kind_of_part next ≡ sort
Does sort Ended (enters inner outer rest) = IsNoWord inner × (kind_of_part outer ≡ sort)
Does sort Ended (ends rest) = Ended
Does sort Ended (offends fault) = Unit {0}

module _ (sort : Kind) (Ended : Type 0) where
  does_if : (test : Bool) (one other : Act) → Does sort Ended one → Does sort Ended other → Does sort Ended (if test then one else other)
  does_if true one other a b = a
  does_if false one other a b = b

  module _ (nest : Nest) (left : ℕ) (outer : Construct) (is : kind_of_part outer ≡ sort) where
    opening-does : (inner : Construct) (rest : List ℕ) → IsNoWord inner → Does sort Ended (opening nest left inner outer rest)
    opening-does inner rest never = does_if (nat_lt nest.levels MAX_LEVELS) _ _ (never, is) tt

    substitution-does : (rest : List ℕ) → Does sort Ended (substitution nest left outer rest)
    substitution-does rest =
        does_if nest.in_braces _ _ tt (opening-does (part.Commands (deeper nest) (Some left) spot.Between) rest (λ e. cc))

    parenthesis-does : (inner front : List ℕ) → Does sort Ended (parenthesis nest left outer inner front)
    parenthesis-does inner [] = substitution-does inner
    parenthesis-does inner (byte ∷ rest) =
        does_if (byte == OPEN) _ _ (opening-does (part.Arithmetic (deeper nest) left) rest (λ e. cc)) (substitution-does inner)

    by-does : (what : Introduced) (quoted : Bool) (all rest : List ℕ) → Does sort Ended (dollar_by what nest quoted left outer all rest)
    by-does (introduced.OutOfProfile spelling) quoted all rest = tt
    by-does introduced.Braces quoted all rest = opening-does (part.BraceHead (inside_braces nest) left quoted) rest (λ e. cc)
    by-does introduced.Parenthesis quoted all rest = parenthesis-does rest (unspliced rest)
    by-does introduced.Name quoted all rest = ((λ e. cc), is)
    by-does introduced.Special quoted all rest = is
    by-does introduced.Nothing quoted all rest = is

    dollar-does : (quoted : Bool) (all front : List ℕ) → Does sort Ended (dollar_at nest quoted left outer all front)
    dollar-does quoted all [] = is
    dollar-does quoted all (byte ∷ rest) = by-does (introduced_by byte) quoted all rest

  single-does : (left : ℕ) (next : Construct) (found : Option (List ℕ)) → kind_of_part next ≡ sort → Does sort Ended (single_quotes left next found)
  single-does left next None is = tt
  single-does left next (Some rest) is = is

  word-does : (nest : Nest) (opened : Option ℕ) (at : Spot) (byte : ℕ) (rest : List ℕ)
      → kind_of_part (part.Commands nest opened (spot_past at)) ≡ sort → kind_of_part (part.Commands nest opened (spot_behind at byte)) ≡ sort
      → Does sort Ended (word_at nest opened at byte rest)
  word-does nest opened at byte rest past behind =
      does_if (byte == QUOTE) _ _ (single-does (length rest + 1) _ (behind_quote rest) past) (does_if (byte == DOUBLE_QUOTE) _ _ ((λ e. cc), past)
      (does_if (byte == BACKSLASH) _ _ past (does_if (byte == BACKQUOTE) _ _ tt
      (does_if (byte == DOLLAR) _ _ (dollar-does nest (length rest + 1) _ past false rest (unspliced rest))
      (does_if ((byte == TILDE) && is_tilde_spot at) _ _ tt behind)))))

word-kind : (nest : Nest) (opened : ℕ) (at : Spot) → IsWordSpot at → kind_of_part (part.Commands nest (Some opened) at) ≡ within_word
word-kind nest opened spot.Between is = absurd is
word-kind nest opened spot.Begin is = refl
word-kind nest opened spot.Name is = refl
word-kind nest opened spot.ValueBegin is = refl
word-kind nest opened spot.Value is = refl
word-kind nest opened spot.Elsewhere is = refl

-- CONSTRUCTS that are none of a `$( )`
abbrev Quiet : Act → Type 0
Quiet does = Does elsewhere (Unit {0}) does

quiet_if : (test : Bool) (one other : Act) → Quiet one → Quiet other → Quiet (if test then one else other)
quiet_if = does_if elsewhere (Unit {0})

module _ (nest : Nest) (left : ℕ) where
  string-quiet : (front : List ℕ) → Quiet (double_quotes_at nest left front)
  string-quiet [] = tt
  string-quiet (byte ∷ rest) =
      quiet_if (byte == DOUBLE_QUOTE) _ _ tt (quiet_if (byte == BACKQUOTE) _ _ tt
      (quiet_if (byte == DOLLAR) _ _ (dollar-does elsewhere (Unit {0}) nest (length rest + 1) (part.DoubleQuotes nest left) refl true rest (unspliced rest))
      (quiet_if (byte == BACKSLASH) _ _ refl refl)))

  quote-quiet : (quoted : Bool) (rest : List ℕ) → Quiet (quote_in_braces nest left quoted rest)
  quote-quiet true rest = refl
  quote-quiet false rest = single-does elsewhere (Unit {0}) (length rest + 1) (part.Braces nest left false) (behind_quote rest) refl

  backslash-quiet : (quoted : Bool) (rest : List ℕ) → Quiet (backslash_in_braces nest left quoted rest)
  backslash-quiet true rest = refl
  backslash-quiet false rest = refl

  braces-quiet : (quoted : Bool) (front : List ℕ) → Quiet (braces_at nest left quoted front)
  braces-quiet quoted [] = tt
  braces-quiet quoted (byte ∷ rest) =
      quiet_if (byte == CLOSE_BRACE) _ _ tt (quiet_if (byte == BACKQUOTE) _ _ tt
      (quiet_if (byte == DOLLAR) _ _ (dollar-does elsewhere (Unit {0}) nest (length rest + 1) (part.Braces nest left quoted) refl quoted rest (unspliced rest))
      (quiet_if (byte == DOUBLE_QUOTE) _ _ ((λ e. cc), refl) (quiet_if (byte == QUOTE) _ _ (quote-quiet quoted rest)
      (quiet_if (byte == BACKSLASH) _ _ (backslash-quiet quoted rest) refl)))))

  braces_word-quiet : (quoted : Bool) (front : List ℕ) → Quiet (braces_word_at nest left quoted front)
  braces_word-quiet quoted [] = tt
  braces_word-quiet quoted (byte ∷ rest) = quiet_if ((byte == TILDE) && not quoted) _ _ tt (braces-quiet quoted (byte ∷ rest))

  head-quiet : (quoted : Bool) (text : List ℕ) (found : Head) → Quiet (head_at nest left quoted text found)
  head-quiet quoted text (whole what measured rest) = tt
  head-quiet quoted text (with_word what by rest) = braces_word-quiet (quoted && not (trims by)) (unspliced rest)
  head-quiet quoted text no_form = braces-quiet quoted (unspliced text)

  expression-quiet : (self : Construct) (byte : ℕ) (rest : List ℕ) → kind_of_part self ≡ elsewhere → Quiet (expression_at nest left self byte rest)
  expression-quiet self byte rest is =
      quiet_if (byte == OPEN) _ _ ((λ e. cc), is) (quiet_if (byte == BACKQUOTE) _ _ tt
      (quiet_if (byte == DOLLAR) _ _ (dollar-does elsewhere (Unit {0}) nest (length rest + 1) self is true rest (unspliced rest))
      (quiet_if (byte == BACKSLASH) _ _ is is)))

  closing-quiet : (text front : List ℕ) → Quiet (closing_at nest left text front)
  closing-quiet text [] = refl
  closing-quiet text (byte ∷ rest) = quiet_if (byte == CLOSE) _ _ tt refl

  arithmetic-quiet : (front : List ℕ) → Quiet (arithmetic_at nest left front)
  arithmetic-quiet [] = tt
  arithmetic-quiet (byte ∷ rest) =
      quiet_if (byte == CLOSE) _ _ (closing-quiet rest (unspliced rest)) (expression-quiet (part.Arithmetic nest left) byte rest refl)

  parentheses-quiet : (front : List ℕ) → Quiet (parentheses_at nest left front)
  parentheses-quiet [] = tt
  parentheses-quiet (byte ∷ rest) = quiet_if (byte == CLOSE) _ _ tt (expression-quiet (part.Parentheses nest left) byte rest refl)

name-quiet : (text front : List ℕ) → Quiet (name_at text front)
name-quiet text [] = tt
name-quiet text (byte ∷ rest) = quiet_if (is_name_byte byte) _ _ refl tt

token-quiet : (nest : Nest) (at : Spot) (text front : List ℕ) → Quiet (in_word nest None at text front)
token-quiet nest at text [] = tt
token-quiet nest at text (byte ∷ rest) =
    quiet_if (ends_word byte) _ _ tt (word-does elsewhere (Unit {0}) nest None at byte rest refl refl)

token_quiet-at : (nest : Nest) (at : Spot) (text : List ℕ) → Quiet (in_commands nest None at text)
token_quiet-at nest spot.Between text = tt
token_quiet-at nest spot.Begin text = token-quiet nest spot.Begin text (unspliced text)
token_quiet-at nest spot.Name text = token-quiet nest spot.Name text (unspliced text)
token_quiet-at nest spot.ValueBegin text = token-quiet nest spot.ValueBegin text (unspliced text)
token_quiet-at nest spot.Value text = token-quiet nest spot.Value text (unspliced text)
token_quiet-at nest spot.Elsewhere text = token-quiet nest spot.Elsewhere text (unspliced text)

pub act-quiet : (construct : Construct) (text : List ℕ) → kind_of_part construct ≡ elsewhere → Quiet (act construct text)
act-quiet (part.Commands nest None at) text is = token_quiet-at nest at text
act-quiet (part.Commands nest (Some opened) spot.Between) text is = absurd cc
act-quiet (part.Commands nest (Some opened) spot.Begin) text is = absurd cc
act-quiet (part.Commands nest (Some opened) spot.Name) text is = absurd cc
act-quiet (part.Commands nest (Some opened) spot.ValueBegin) text is = absurd cc
act-quiet (part.Commands nest (Some opened) spot.Value) text is = absurd cc
act-quiet (part.Commands nest (Some opened) spot.Elsewhere) text is = absurd cc
act-quiet part.Name text is = name-quiet text (unspliced text)
act-quiet (part.DoubleQuotes nest left) text is = string-quiet nest left (unspliced text)
act-quiet (part.BraceHead nest left quoted) text is = head-quiet nest left quoted text (brace_head text)
act-quiet (part.Braces nest left quoted) text is = braces-quiet nest left quoted (unspliced text)
act-quiet (part.Arithmetic nest left) text is = arithmetic-quiet nest left (unspliced text)
act-quiet (part.Parentheses nest left) text is = parentheses-quiet nest left (unspliced text)

-- A WORD of a `$( )` doesn't end at a byte of it
pub word-goes : (nest : Nest) (opened : ℕ) (at : Spot) (byte : ℕ) (rest : List ℕ) → Does within_word ⊥ (word_at nest (Some opened) at byte rest)
word-goes nest opened at byte rest =
    word-does within_word ⊥ nest (Some opened) at byte rest (word-kind nest opened (spot_past at) (past-spot at))
    (word-kind nest opened (spot_behind at byte) (behind-spot at byte))

-- THE ENDS of words: so many words are open in a construct, with those around it
abbrev pub words_in : Kind → ℕ → ℕ
words_in among_tokens inner = inner
words_in within_word inner = suc inner
words_in elsewhere inner = inner

quiet_words : (sort : Kind) (inner : ℕ) → (sort ≡ within_word → ⊥) → words_in sort inner ≡ inner
quiet_words among_tokens inner never = refl
quiet_words within_word inner never = absurd (never refl)
quiet_words elsewhere inner never = refl

-- behind the marks of a step the next end of a word is that of what the construct goes on as
abbrev Moves : ℕ → ℕ → List Mark → Act → Type 0
Moves from inner found (goes next rest) = (more : List Mark) → word_end (found ++ more) from ≡ word_end more (words_in (kind_of_part next) inner)
Moves from inner found (enters opens outer rest) =
    IsNoWord opens × ((more : List Mark) → word_end (found ++ more) from ≡ word_end more (words_in (kind_of_part outer) inner))
Moves from inner found (ends rest) = (more : List Mark) → word_end (found ++ more) from ≡ word_end more inner
Moves from inner found (offends fault) = Unit {0}

does-moves : (sort : Kind) (Ended : Type 0) (from inner : ℕ) (found : List Mark) (does : Act) → Does sort Ended does
    → ((more : List Mark) → word_end (found ++ more) from ≡ word_end more (words_in sort inner))
    → (Ended → (more : List Mark) → word_end (found ++ more) from ≡ word_end more inner) → Moves from inner found does
does-moves sort Ended from inner found (goes next rest) is on over = λ more. on more ∙ ap (λ it. word_end more (words_in it inner)) (sym is)
does-moves sort Ended from inner found (enters opens outer rest) is on over =
    (is.0, λ more. on more ∙ ap (λ it. word_end more (words_in it inner)) (sym is.1))
does-moves sort Ended from inner found (ends rest) is on over = over is
does-moves sort Ended from inner found (offends fault) is on over = tt

ended-moves : (to inner : ℕ) (found : List Mark) (does : Act) → Moves inner inner found does → Moves (suc inner) inner (mark.WordEnd to ∷ found) does
ended-moves to inner found (goes next rest) so = so
ended-moves to inner found (enters opens outer rest) so = so
ended-moves to inner found (ends rest) so = so
ended-moves to inner found (offends fault) so = so

pub flat : (front opens one closes two more : List Mark)
    → (front ++ (opens ++ (one ++ (closes ++ two)))) ++ more ≡ front ++ (opens ++ (one ++ (closes ++ (two ++ more))))
flat front opens one closes two more =
    append_assoc front (opens ++ (one ++ (closes ++ two))) more
    ∙ ap (λ it. front ++ it) (append_assoc opens (one ++ (closes ++ two)) more
    ∙ ap (λ it. opens ++ it) (append_assoc one (closes ++ two) more ∙ ap (λ it. one ++ it) (append_assoc closes two more)))

module _ (total : ℕ) where
  module _ (nest : Nest) (opened : ℕ) (text : List ℕ) (inner : ℕ) where
    begin-moves : (from : ℕ) (front : List ℕ) → Moves inner inner (mark.WordBegin from ∷ []) (word_begin nest opened front)
    begin-moves from [] = tt
    begin-moves from (byte ∷ rest) =
        does-moves within_word ⊥ inner inner (mark.WordBegin from ∷ []) (word_at nest (Some opened) spot.Begin byte rest)
        (word-goes nest opened spot.Begin byte rest) (λ more. refl) (λ never more. absurd never)

    between-moves : (found : Found) → Moves inner inner (begun total text found) (between_at nest opened text found)
    between-moves nothing = tt
    between-moves (gap rest) = λ more. refl
    between-moves (open_parenthesis rest) = ((λ e. cc), λ more. refl)
    between-moves (close_parenthesis rest) = λ more. refl
    between-moves (token sort rest) = λ more. refl
    between-moves word = begin-moves (total - length (unspliced text)) (unspliced text)
    between-moves (offence fault) = tt

    word-moves : (at : Spot) (front : List ℕ) → Moves (suc inner) inner (behind_word total text front) (in_word nest (Some opened) at text front)
    word-moves at [] =
        ended-moves (total - length text) inner (begun total text (lexeme text)) (between_at nest opened text (lexeme text)) (between-moves (lexeme text))
    word-moves at (byte ∷ rest) = by_test (ends_word byte)
      where
        by_test : (test : Bool) → Moves (suc inner) inner (if test then mark.WordEnd (total - length text) ∷ begun total text (lexeme text) else [])
            (if test then scan.word_end nest (Some opened) text else word_at nest (Some opened) at byte rest)
        by_test true =
            ended-moves (total - length text) inner (begun total text (lexeme text)) (between_at nest opened text (lexeme text)) (between-moves (lexeme text))
        by_test false =
            does-moves within_word ⊥ (suc inner) inner [] (word_at nest (Some opened) at byte rest) (word-goes nest opened at byte rest) (λ more. refl)
            (λ never more. absurd never)

  quiet-moves : (construct : Construct) (text : List ℕ) (inner : ℕ) → kind_of_part construct ≡ elsewhere → Moves inner inner [] (act construct text)
  quiet-moves construct text inner is =
      does-moves elsewhere (Unit {0}) inner inner [] (act construct text) (act-quiet construct text is) (λ more. refl) (λ over more. refl)

  act-moves : (construct : Construct) (text : List ℕ) (inner : ℕ)
      → Moves (words_in (kind_of_part construct) inner) inner (seen total construct text) (act construct text)
  act-moves (part.Commands nest None at) text inner = quiet-moves (part.Commands nest None at) text inner refl
  act-moves (part.Commands nest (Some opened) spot.Between) text inner = between-moves nest opened text inner (lexeme text)
  act-moves (part.Commands nest (Some opened) spot.Begin) text inner = word-moves nest opened text inner spot.Begin (unspliced text)
  act-moves (part.Commands nest (Some opened) spot.Name) text inner = word-moves nest opened text inner spot.Name (unspliced text)
  act-moves (part.Commands nest (Some opened) spot.ValueBegin) text inner = word-moves nest opened text inner spot.ValueBegin (unspliced text)
  act-moves (part.Commands nest (Some opened) spot.Value) text inner = word-moves nest opened text inner spot.Value (unspliced text)
  act-moves (part.Commands nest (Some opened) spot.Elsewhere) text inner = word-moves nest opened text inner spot.Elsewhere (unspliced text)
  act-moves part.Name text inner = quiet-moves part.Name text inner refl
  act-moves (part.DoubleQuotes nest left) text inner = quiet-moves (part.DoubleQuotes nest left) text inner refl
  act-moves (part.BraceHead nest left quoted) text inner = quiet-moves (part.BraceHead nest left quoted) text inner refl
  act-moves (part.Braces nest left quoted) text inner = quiet-moves (part.Braces nest left quoted) text inner refl
  act-moves (part.Arithmetic nest left) text inner = quiet-moves (part.Arithmetic nest left) text inner refl
  act-moves (part.Parentheses nest left) text inner = quiet-moves (part.Parentheses nest left) text inner refl

  opening-same : (text rest : List ℕ) (by : Entry) (more : List Mark) (inner : ℕ)
      → word_end (marks.opening total text rest by ++ more) inner ≡ word_end more inner
  opening-same text rest entry.Parenthesis more inner = refl
  opening-same text rest (entry.Substitution place) more inner = refl
  opening-same text rest entry.Other more inner = refl

  closing-same : (by : Entry) (more : List Mark) (inner : ℕ) → word_end (closing by ++ more) inner ≡ word_end more inner
  closing-same entry.Parenthesis more inner = refl
  closing-same (entry.Substitution place) more inner = refl
  closing-same entry.Other more inner = refl

  -- behind a construct that is read the next end is that of a word around it
  pub balanced : {construct : Construct} {text left : List ℕ} {found : List Mark} → Marked total construct text found left → (more : List Mark) (inner : ℕ)
      → word_end (found ++ more) (words_in (kind_of_part construct) inner) ≡ word_end more inner
  balanced (marks_on {construct = construct} {next = next} {text = text} {rest = rest} {found = found} e behind) more inner =
      let so : Moves (words_in (kind_of_part construct) inner) inner (seen total construct text) (goes next rest)
      = subst (Moves (words_in (kind_of_part construct) inner) inner (seen total construct text)) e (act-moves construct text inner) in
      ap (λ it. word_end it (words_in (kind_of_part construct) inner)) (append_assoc (seen total construct text) found more)
      ∙ so (found ++ more) ∙ balanced behind more inner
  balanced (marks_inner {construct = construct} {inner = opens} {outer = outer} {text = text} {rest = rest} {inside = one} {outside = two} e inside outside) more inner =
      let by = entry_of opens outer in
      let so : Moves (words_in (kind_of_part construct) inner) inner (seen total construct text) (enters opens outer rest)
      = subst (Moves (words_in (kind_of_part construct) inner) inner (seen total construct text)) e (act-moves construct text inner) in
      let around = words_in (kind_of_part outer) inner in
      ap (λ it. word_end it (words_in (kind_of_part construct) inner)) (flat (seen total construct text) (marks.opening total text rest by) one (closing by) two more)
      ∙ so.1 (marks.opening total text rest by ++ (one ++ (closing by ++ (two ++ more))))
      ∙ opening-same text rest by (one ++ (closing by ++ (two ++ more))) around
      ∙ ap (word_end (one ++ (closing by ++ (two ++ more)))) (sym (quiet_words (kind_of_part opens) around so.0))
      ∙ balanced inside (closing by ++ (two ++ more)) around
      ∙ closing-same by (two ++ more) around ∙ balanced outside more inner
  balanced (marks_end {construct = construct} {text = text} {rest = rest} e) more inner =
      let so : Moves (words_in (kind_of_part construct) inner) inner (seen total construct text) (ends rest)
      = subst (Moves (words_in (kind_of_part construct) inner) inner (seen total construct text)) e (act-moves construct text inner) in so more
