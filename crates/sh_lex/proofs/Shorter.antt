-- A step never gives back more text than it was given.
use Rattle.std.proofs.Common.{◌≡◌, ℕ, Bool, true, false, not, Option, None, Some, ◌<◌, ◌≤◌, ◌+◌, List, [], ◌∷◌, ◌==◌, ◌&&◌, if◌then◌else◌, length, drop, refl, ap, arith, rules, length-drop}
use Rattle.std.specs.Char.{is_ascii_digit}
use Rattle.sh_lex.specs.Bytes.{ends_word}
use Rattle.sh_lex.specs.Texts.{unspliced, behind_run, behind_quote, behind_comment, behind_backslash}
use Rattle.sh_lex.specs.Acts.{Act, Found, nothing, gap, open_parenthesis, close_parenthesis, token, word, offence}
use Rattle.sh_lex.specs.Numbers.{number_at, after_digit}
use Rattle.sh_lex.specs.Operators.{and_at, pipe_at, semi_at, less_at, great_at, delimiter, lexeme_at, lexeme}
use Rattle.sh_lex.specs.Dollars.{opening, substitution, parenthesis, introduced_by, dollar_by, dollar_at, after_dollar, name_at}
use Rattle.sh_lex.specs.DoubleQuotes.{double_quotes_at}
use Rattle.sh_lex.specs.Heads.{Head, whole, with_word, no_form, trims, brace_head}
use Rattle.sh_lex.specs.Braces.{single_quotes, quote_in_braces, backslash_in_braces, braces_at, braces_word_at, head_at}
use Rattle.sh_lex.specs.Arithmetic.{expression_at, closing_at, arithmetic_at, parentheses_at}
use Rattle.sh_lex.specs.Commands.{word_at, word_begin, between_at, word_end, in_word, in_commands}
use Rattle.sh_lex.specs.Reads.{act}
use Rattle.sh_lex.proofs.Shrinking.{Shrinks, BeginsWord, LeavesLess}
use Rattle.sh_lex.proofs.Fronts.{length-unspliced, length-behind_run}
use Rattle.sh_lex.proofs.HeadLemmas.{Stays, stays_whole, stays_word, stays_none, brace_head-Stays}
use Rattle.sh_lex.specs.declared.parts.Nest.{Nest}
use Rattle.sh_lex.specs.declared.parts.Construct.{Construct}
use Rattle.sh_lex.specs.declared.parts.Spot.{Spot}
use Rattle.sh_lex.specs.declared.parts.Construct.TheVariants as part
use Rattle.sh_lex.specs.declared.parts.Spot.TheVariants as spot
use Rattle.sh_lex.specs.declared.dollars.Introduced.{Introduced}
use Rattle.sh_lex.specs.declared.dollars.Introduced.TheVariants as introduced

-- a choice shrinks where both sides do
pub Shrinks-if : (count : ℕ) (test : Bool) (left right : Act) → Shrinks count left → Shrinks count right
    → Shrinks count (if test then left else right)
Shrinks-if count true left right l r = l
Shrinks-if count false left right l r = r

pub LeavesLess-choice : (text : List ℕ) (test : Bool) (left right : Found) → LeavesLess text left → LeavesLess text right
    → LeavesLess text (if test then left else right)
LeavesLess-choice text true left right l r = l
LeavesLess-choice text false left right l r = r

pub LeavesLess-if : (text : List ℕ) (test : Bool) (left right : Found) → (test ≡ true → LeavesLess text left)
    → (test ≡ false → LeavesLess text right) → LeavesLess text (if test then left else right)
LeavesLess-if text true left right l r = l refl
LeavesLess-if text false left right l r = r refl

pub length-behind_comment : (text : List ℕ) → length (behind_comment text) ≤ length text
length-behind_comment [] = omega arith
length-behind_comment (byte ∷ rest) = grind (arith, length-behind_comment rest)

pub length-behind_backslash : (braces : Bool) (text : List ℕ) → length (behind_backslash braces text) ≤ length text
length-behind_backslash braces [] = omega arith
length-behind_backslash braces (byte ∷ rest) = grind arith

module _ (nest : Nest) (left : ℕ) (count : ℕ) where
  opening-Shrinks : (inner outer : Construct) (rest : List ℕ) → length rest < count → Shrinks count (opening nest left inner outer rest)
  opening-Shrinks inner outer rest h = search (Shrinks-if, rules)

  substitution-Shrinks : (outer : Construct) (rest : List ℕ) → length rest < count → Shrinks count (substitution nest left outer rest)
  substitution-Shrinks outer rest h = search (Shrinks-if, rules)

  parenthesis-Shrinks : (outer : Construct) (inner text : List ℕ) → length inner < count → length text < count
      → Shrinks count (parenthesis nest left outer inner text)
  parenthesis-Shrinks outer inner [] h k = substitution-Shrinks outer inner h
  parenthesis-Shrinks outer inner (byte ∷ rest) h k =
      let shorter : length rest < count = omega arith in search (Shrinks-if, substitution-Shrinks, opening-Shrinks, rules)

  dollar_by-Shrinks : (what : Introduced) (quoted : Bool) (outer : Construct) (text rest : List ℕ) → length text < count → length rest < count
      → Shrinks count (dollar_by what nest quoted left outer text rest)
  dollar_by-Shrinks (introduced.OutOfProfile spelling) quoted outer text rest h k = tt
  dollar_by-Shrinks introduced.Braces quoted outer text rest h k = opening-Shrinks _ outer rest k
  dollar_by-Shrinks introduced.Parenthesis quoted outer text rest h k =
      parenthesis-Shrinks outer rest (unspliced rest) k (omega (arith, length-unspliced rest))
  dollar_by-Shrinks introduced.Name quoted outer text rest h k = k
  dollar_by-Shrinks introduced.Special quoted outer text rest h k = k
  dollar_by-Shrinks introduced.Nothing quoted outer text rest h k = h

  dollar_at-Shrinks : (quoted : Bool) (outer : Construct) (text front : List ℕ) → length text < count → length front < count
      → Shrinks count (dollar_at nest quoted left outer text front)
  dollar_at-Shrinks quoted outer text [] h k = h
  dollar_at-Shrinks quoted outer text (byte ∷ rest) h k =
      dollar_by-Shrinks (introduced_by byte) quoted outer text rest h (omega arith)

  -- an expansion takes what is behind the `$`
  pub after_dollar-Shrinks : (quoted : Bool) (outer : Construct) (text : List ℕ) → length text < count
      → Shrinks count (after_dollar nest quoted left outer text)
  after_dollar-Shrinks quoted outer text h = dollar_at-Shrinks quoted outer text (unspliced text) h (omega (arith, length-unspliced text))

double_quotes-Shrinks : (nest : Nest) (left count : ℕ) (text : List ℕ) → length text ≤ count
    → Shrinks count (double_quotes_at nest left text)
double_quotes-Shrinks nest left count [] h = tt
double_quotes-Shrinks nest left count (byte ∷ rest) h =
    let shorter : length rest < count = omega arith in
    let within : length rest ≤ count = omega arith in
    let behind : length (behind_backslash false rest) < count = omega (arith, length-behind_backslash false rest) in
    search (Shrinks-if, after_dollar-Shrinks, rules)

name-Shrinks : (count : ℕ) (text front : List ℕ) → length text ≤ count → length front ≤ count → Shrinks count (name_at text front)
name-Shrinks count text [] h k = h
name-Shrinks count text (byte ∷ rest) h k =
    let shorter : length rest < count = omega arith in search (Shrinks-if, rules)

-- single quotes
behind_quote_if : (test : Bool) (rest : List ℕ) (text : List ℕ) (after : List ℕ)
    → (behind_quote rest ≡ Some after → length after < length rest + 1) → length rest + 1 ≤ length text
    → (if test then Some rest else behind_quote rest) ≡ Some after → length after < length text
behind_quote_if true rest text after more h e = let g : rest ≡ after = cc in omega (arith, ap length g)
behind_quote_if false rest text after more h e = omega (arith, more e)

pub length-behind_quote : (text after : List ℕ) → behind_quote text ≡ Some after → length after < length text
length-behind_quote [] after h = cc
length-behind_quote (byte ∷ rest) after h =
    behind_quote_if (byte == 39) rest (byte ∷ rest) after (λ e. omega (arith, length-behind_quote rest after e)) (omega arith) h

single_found : (left : ℕ) (next : Construct) (count : ℕ) (text : List ℕ) (found : Option (List ℕ)) → behind_quote text ≡ found
    → length text < count → Shrinks count (single_quotes left next found)
single_found left next count text None e h = tt
single_found left next count text (Some after) e h = omega (arith, length-behind_quote text after e)

single_quotes-Shrinks : (left : ℕ) (next : Construct) (count : ℕ) (text : List ℕ) → length text < count
    → Shrinks count (single_quotes left next (behind_quote text))
single_quotes-Shrinks left next count text h = single_found left next count text (behind_quote text) refl h

module _ (nest : Nest) (left : ℕ) (count : ℕ) where
  quote-Shrinks : (quoted : Bool) (rest : List ℕ) → length rest < count → Shrinks count (quote_in_braces nest left quoted rest)
  quote-Shrinks true rest h = h
  quote-Shrinks false rest h = single_quotes-Shrinks (length rest + 1) (part.Braces nest left false) count rest h

  backslash-Shrinks : (quoted : Bool) (rest : List ℕ) → length rest < count
      → Shrinks count (backslash_in_braces nest left quoted rest)
  backslash-Shrinks true rest h = omega (arith, length-behind_backslash true rest)
  backslash-Shrinks false rest h = omega (arith, length-drop 1 rest)

  braces-Shrinks : (quoted : Bool) (text : List ℕ) → length text ≤ count → Shrinks count (braces_at nest left quoted text)
  braces-Shrinks quoted [] h = tt
  braces-Shrinks quoted (byte ∷ rest) h =
      let shorter : length rest < count = omega arith in
      let within : length rest ≤ count = omega arith in
      search (Shrinks-if, quote-Shrinks, backslash-Shrinks, after_dollar-Shrinks, rules)

  braces_word-Shrinks : (quoted : Bool) (text : List ℕ) → length text ≤ count
      → Shrinks count (braces_word_at nest left quoted text)
  braces_word-Shrinks quoted [] h = tt
  braces_word-Shrinks quoted (byte ∷ rest) h =
      Shrinks-if count ((byte == 126) && not quoted) _ _ tt (braces-Shrinks quoted (byte ∷ rest) h)

  head-Shrinks : (quoted : Bool) (text : List ℕ) (found : Head) → length text ≤ count → Stays count found
      → Shrinks count (head_at nest left quoted text found)
  head-Shrinks quoted text (whole what measured rest) h (stays_whole k) = k
  head-Shrinks quoted text (with_word what by rest) h (stays_word k) =
      braces_word-Shrinks (quoted && not (trims by)) (unspliced rest) (omega (arith, length-unspliced rest))
  head-Shrinks quoted text no_form h stays_none = braces-Shrinks quoted (unspliced text) (omega (arith, length-unspliced text))

  expression-Shrinks : (self : Construct) (byte : ℕ) (rest : List ℕ) → length rest < count
      → Shrinks count (expression_at nest left self byte rest)
  expression-Shrinks self byte rest h =
      let behind : length (behind_backslash false rest) < count = omega (arith, length-behind_backslash false rest) in
      search (Shrinks-if, after_dollar-Shrinks, rules)

  closing-Shrinks : (text front : List ℕ) → length text < count → length front < count → Shrinks count (closing_at nest left text front)
  closing-Shrinks text [] h k = h
  closing-Shrinks text (byte ∷ rest) h k = let within : length rest ≤ count = omega arith in search (Shrinks-if, rules)

  arithmetic-Shrinks : (text : List ℕ) → length text ≤ count → Shrinks count (arithmetic_at nest left text)
  arithmetic-Shrinks [] h = tt
  arithmetic-Shrinks (byte ∷ rest) h =
      let shorter : length rest < count = omega arith in
      let inside : length (unspliced rest) < count = omega (arith, length-unspliced rest) in
      Shrinks-if count (byte == 41) _ _ (closing-Shrinks rest (unspliced rest) shorter inside)
      (expression-Shrinks (part.Arithmetic nest left) byte rest shorter)

  parentheses-Shrinks : (text : List ℕ) → length text ≤ count → Shrinks count (parentheses_at nest left text)
  parentheses-Shrinks [] h = tt
  parentheses-Shrinks (byte ∷ rest) h =
      let shorter : length rest < count = omega arith in
      let within : length rest ≤ count = omega arith in
      Shrinks-if count (byte == 41) _ _ within (expression-Shrinks (part.Parentheses nest left) byte rest shorter)

-- what begins at a text, whose first byte is `byte`
module _ (text : List ℕ) (byte : ℕ) (rest : List ℕ) (begins : unspliced text ≡ byte ∷ rest) where
  rest_shorter : length rest < length text
  rest_shorter = let g : length (unspliced text) ≡ length (byte ∷ rest) = ap length begins in omega (arith, length-unspliced text, g)

  front_shorter : length (unspliced rest) < length text
  front_shorter = omega (arith, length-unspliced rest, rest_shorter)

  and-LeavesLess : (left : ℕ) (front : List ℕ) → length front < length text → LeavesLess text (and_at left front)
  and-LeavesLess left [] h = tt
  and-LeavesLess left (b ∷ r) h = let less : length r < length text = omega arith in search (LeavesLess-choice, rules)

  pipe-LeavesLess : (front : List ℕ) → length front < length text → LeavesLess text (pipe_at rest front)
  pipe-LeavesLess [] h = rest_shorter
  pipe-LeavesLess (b ∷ r) h =
      let less : length r < length text = omega arith in search (LeavesLess-choice, rest_shorter, rules)

  semi-LeavesLess : (left : ℕ) (front : List ℕ) → LeavesLess text (semi_at left rest front)
  semi-LeavesLess left [] = rest_shorter
  semi-LeavesLess left (b ∷ r) = search (LeavesLess-choice, rest_shorter, rules)

  less-LeavesLess : (left : ℕ) (front : List ℕ) → LeavesLess text (less_at left rest front)
  less-LeavesLess left [] = rest_shorter
  less-LeavesLess left (b ∷ r) = search (LeavesLess-choice, rest_shorter, rules)

  great-LeavesLess : (left : ℕ) (front : List ℕ) → length front < length text → LeavesLess text (great_at left rest front)
  great-LeavesLess left [] h = rest_shorter
  great-LeavesLess left (b ∷ r) h =
      let less : length r < length text = omega arith in search (LeavesLess-choice, rest_shorter, rules)

  delimiter-LeavesLess : LeavesLess text (delimiter byte rest)
  delimiter-LeavesLess =
      let and : LeavesLess text (and_at (length rest + 1) (unspliced rest))
      = and-LeavesLess (length rest + 1) (unspliced rest) front_shorter in
      let pipe : LeavesLess text (pipe_at rest (unspliced rest)) = pipe-LeavesLess (unspliced rest) front_shorter in
      let semi : LeavesLess text (semi_at (length rest + 1) rest (unspliced rest))
      = semi-LeavesLess (length rest + 1) (unspliced rest) in
      let less : LeavesLess text (less_at (length rest + 1) rest (unspliced rest))
      = less-LeavesLess (length rest + 1) (unspliced rest) in
      let great : LeavesLess text (great_at (length rest + 1) rest (unspliced rest))
      = great-LeavesLess (length rest + 1) (unspliced rest) front_shorter in
      search (LeavesLess-choice, rest_shorter, and, pipe, semi, less, great, rules)

  module _ (in_word : ends_word byte ≡ false) where
    begins_word : BeginsWord text
    begins_word = (byte, (rest, (begins, in_word)))

    number-LeavesLess : (left : ℕ) (single : Bool) (end front : List ℕ) → length end < length text
        → LeavesLess text (number_at byte left single end front)
    number-LeavesLess left single end [] h = begins_word
    number-LeavesLess left single end (b ∷ r) h =
        let word : BeginsWord text = begins_word in search (LeavesLess-choice, word, rules)

    digit-LeavesLess : LeavesLess text (after_digit byte rest)
    digit-LeavesLess =
        number-LeavesLess (length rest + 1) (length (behind_run is_ascii_digit rest) == length rest) (behind_run is_ascii_digit rest)
        (unspliced (behind_run is_ascii_digit rest)) (omega (arith, length-behind_run is_ascii_digit rest, rest_shorter))

    other-LeavesLess : LeavesLess text
        (if byte == 35 then gap (behind_comment rest) else if is_ascii_digit byte then after_digit byte rest else word)
    other-LeavesLess =
        let comment : length (behind_comment rest) < length text = omega (arith, length-behind_comment rest, rest_shorter) in
        let digit : LeavesLess text (after_digit byte rest) = digit-LeavesLess in
        let at_word : BeginsWord text = begins_word in
        search (LeavesLess-choice, comment, digit, at_word, rules)

  front-LeavesLess : LeavesLess text (lexeme_at (byte ∷ rest))
  front-LeavesLess =
      LeavesLess-if text (ends_word byte) (delimiter byte rest)
      (if byte == 35 then gap (behind_comment rest) else if is_ascii_digit byte then after_digit byte rest else word)
      (λ _. delimiter-LeavesLess) other-LeavesLess

found_at : (text front : List ℕ) → unspliced text ≡ front → LeavesLess text (lexeme_at front)
found_at text [] e = tt
found_at text (byte ∷ rest) e = front-LeavesLess text byte rest e

-- what is found at a text leaves less of it, and a word has a byte
pub lexeme-LeavesLess : (text : List ℕ) → LeavesLess text (lexeme text)
lexeme-LeavesLess text = found_at text (unspliced text) refl

module _ (nest : Nest) (count : ℕ) where
  word-Shrinks : (opened : Option ℕ) (at : Spot) (byte : ℕ) (rest : List ℕ) → length rest < count
      → Shrinks count (word_at nest opened at byte rest)
  word-Shrinks opened at byte rest h =
      let behind : length (drop 1 rest) < count = omega (arith, length-drop 1 rest) in
      search (Shrinks-if, single_quotes-Shrinks, after_dollar-Shrinks, rules) depth 9

  word_begin-Shrinks : (opened : ℕ) (front : List ℕ) → length front ≤ count → Shrinks count (word_begin nest opened front)
  word_begin-Shrinks opened [] h = tt
  word_begin-Shrinks opened (byte ∷ rest) h = word-Shrinks (Some opened) spot.Begin byte rest (omega arith)

  between-Shrinks : (opened : ℕ) (text : List ℕ) (found : Found) → length text ≤ count → LeavesLess text found
      → Shrinks count (between_at nest opened text found)
  between-Shrinks opened text nothing h less = tt
  between-Shrinks opened text (gap rest) h less = omega arith
  between-Shrinks opened text (open_parenthesis rest) h less = omega arith
  between-Shrinks opened text (close_parenthesis rest) h less = omega arith
  between-Shrinks opened text (token kind rest) h less = omega arith
  between-Shrinks opened text word h less =
      word_begin-Shrinks opened (unspliced text) (omega (arith, length-unspliced text))
  between-Shrinks opened text (offence found) h less = tt

  word_end-Shrinks : (opened : Option ℕ) (text : List ℕ) → length text ≤ count → Shrinks count (word_end nest opened text)
  word_end-Shrinks None text h = h
  word_end-Shrinks (Some opened) text h = between-Shrinks opened text (lexeme text) h (lexeme-LeavesLess text)

  in_word-Shrinks : (opened : Option ℕ) (at : Spot) (text front : List ℕ) → length text ≤ count → length front ≤ count
      → Shrinks count (in_word nest opened at text front)
  in_word-Shrinks opened at text [] h k = word_end-Shrinks opened text h
  in_word-Shrinks opened at text (byte ∷ rest) h k =
      Shrinks-if count (ends_word byte) _ _ (word_end-Shrinks opened text h) (word-Shrinks opened at byte rest (omega arith))

  commands-Shrinks : (opened : Option ℕ) (at : Spot) (text : List ℕ) → length text ≤ count
      → Shrinks count (in_commands nest opened at text)
  commands-Shrinks opened spot.Between text h = word_end-Shrinks opened text h
  commands-Shrinks opened spot.Begin text h =
      in_word-Shrinks opened spot.Begin text (unspliced text) h (omega (arith, length-unspliced text))
  commands-Shrinks opened spot.Name text h =
      in_word-Shrinks opened spot.Name text (unspliced text) h (omega (arith, length-unspliced text))
  commands-Shrinks opened spot.ValueBegin text h =
      in_word-Shrinks opened spot.ValueBegin text (unspliced text) h (omega (arith, length-unspliced text))
  commands-Shrinks opened spot.Value text h =
      in_word-Shrinks opened spot.Value text (unspliced text) h (omega (arith, length-unspliced text))
  commands-Shrinks opened spot.Elsewhere text h =
      in_word-Shrinks opened spot.Elsewhere text (unspliced text) h (omega (arith, length-unspliced text))

-- a step of a construct leaves less of the text, or as much where the construct has ended
pub act-Shrinks : (construct : Construct) (text : List ℕ) → Shrinks (length text) (act construct text)
act-Shrinks (part.Commands nest opened at) text = commands-Shrinks nest (length text) opened at text (omega arith)
act-Shrinks part.Name text = name-Shrinks (length text) text (unspliced text) (omega arith) (length-unspliced text)
act-Shrinks (part.DoubleQuotes nest left) text =
    double_quotes-Shrinks nest left (length text) (unspliced text) (length-unspliced text)
act-Shrinks (part.BraceHead nest left quoted) text =
    head-Shrinks nest left (length text) quoted text (brace_head text) (omega arith) (brace_head-Stays (length text) text (omega arith))
act-Shrinks (part.Braces nest left quoted) text =
    braces-Shrinks nest left (length text) quoted (unspliced text) (length-unspliced text)
act-Shrinks (part.Arithmetic nest left) text =
    arithmetic-Shrinks nest left (length text) (unspliced text) (length-unspliced text)
act-Shrinks (part.Parentheses nest left) text =
    parentheses-Shrinks nest left (length text) (unspliced text) (length-unspliced text)
