-- The command substitutions of a word are numbered in text order, from its first one on.
use Rattle.std.proofs.Common.{◌≡◌, ℕ, suc, ◌+◌, ◌-◌, Bool, true, false, Option, None, Some, List, [], ◌∷◌, ◌++◌, ◌==◌, ◌||◌, ◌&&◌, if◌then◌else◌, length, refl, sym, ◌∙◌, ap, subst, append_assoc, arith}
use Rattle.std.specs.List.{range_with_len}
use Rattle.sh_tree.specs.Trees.{WordTree, no_part, part, PartTree, plain, quoted, parameter, substitution, arithmetic, FormTree}
use Rattle.sh_tree.specs.Numbering.{word_numbers, part_numbers, form_numbers}
use Rattle.sh_tree.specs.declared.words.Param.{Param}
use Rattle.sh_lex.specs.Bytes.{is_quoted_escape}
use Rattle.sh_lex.specs.Texts.{unspliced}
use Rattle.sh_lex.specs.declared.bytes.TheConstants.{DOUBLE_QUOTE, DOLLAR, BACKSLASH, QUOTE, CLOSE_BRACE, OPEN, CLOSE}
use Rattle.sh_lex.specs.declared.Operator.{Operator}
use Rattle.sh_lex.specs.declared.Operator.TheVariants as operator
use Rattle.sh_words.specs.Pieces.{before, found_before, literal}
use Rattle.sh_words.specs.Parameters.{form_of, check_form, bare_form}
use Rattle.sh_words.specs.Steps.{Step, ends, passes, gives, expands, begins_expansion, dollar, opened, backslash, escape, unquoted_at, in_quotes_at, word_at, double_quotes_at, single_quotes_at, closing_at, parenthesis_closed, arithmetic_at, step}
use Rattle.sh_words.specs.Words.{Outcome, done, Made, made, onto, found_onto, with_form, calculated, ReadsPieces, has_ended, passes_on, gives_piece, expands_to, ReadsExpansion, is_parameter, is_substitution, has_word, has_arithmetic, has_no_form, word_too_deep, arithmetic_too_deep, WordOutcome, word_outcome, ReadsBehind}
use Rattle.sh_words.specs.declared.steps.Owner.{Owner}
use Rattle.sh_words.specs.declared.steps.Owner.TheVariants as owner
use Rattle.sh_words.specs.declared.steps.Mode.{Mode}
use Rattle.sh_words.specs.declared.steps.Mode.TheVariants as mode

-- numbers that count up from one to below another
data Counting : ℕ → ℕ → List ℕ → Type 0 where
  none_more : {from : ℕ} → Counting from from []
  one_more : {from to : ℕ} {rest : List ℕ} → Counting (from + 1) to rest → Counting from to (from ∷ rest)

counting_on : {from middle to : ℕ} {numbers more : List ℕ} → Counting from middle numbers → Counting middle to more
    → Counting from to (numbers ++ more)
counting_on none_more more = more
counting_on (one_more rest) more = one_more (counting_on rest more)

as_range : {from to : ℕ} {numbers : List ℕ} → Counting from to numbers
    → (count : ℕ) × ((to ≡ from + count) × (numbers ≡ range_with_len from count))
as_range none_more = (0, (omega arith, refl))
as_range (one_more {from = from} rest) =
    let (count, (end, is)) = as_range rest in (suc count, (omega (arith, end), ap (λ x. from ∷ x) is))

-- a piece in front of a word
before-numbers : (piece : PartTree) (word : WordTree) → word_numbers (before piece word) ≡ part_numbers piece ++ word_numbers word
before-numbers (plain bytes) no_part = refl
before-numbers (plain bytes) (part (plain more) rest) = refl
before-numbers (plain bytes) (part (quoted more) rest) = refl
before-numbers (plain bytes) (part (parameter what form is_quoted) rest) = refl
before-numbers (plain bytes) (part (substitution number is_quoted) rest) = refl
before-numbers (plain bytes) (part (arithmetic word is_quoted) rest) = refl
before-numbers (quoted bytes) no_part = refl
before-numbers (quoted bytes) (part (plain more) rest) = refl
before-numbers (quoted bytes) (part (quoted more) rest) = refl
before-numbers (quoted bytes) (part (parameter what form is_quoted) rest) = refl
before-numbers (quoted bytes) (part (substitution number is_quoted) rest) = refl
before-numbers (quoted bytes) (part (arithmetic word is_quoted) rest) = refl
before-numbers (parameter what form is_quoted) word = refl
before-numbers (substitution number is_quoted) word = refl
before-numbers (arithmetic inner is_quoted) word = refl

-- a piece that a step gives has none
abbrev GivesBytes : Step → Type 0
GivesBytes (ends rest) = Unit {0}
GivesBytes (passes next rest) = Unit {0}
GivesBytes (gives piece next rest) = part_numbers piece ≡ []
GivesBytes (expands is_quoted left rest) = Unit {0}

bytes_if : (test : Bool) (one other : Step) → GivesBytes one → GivesBytes other → GivesBytes (if test then one else other)
bytes_if true one other a b = a
bytes_if false one other a b = b

literal-numbers : (is_quoted : Bool) (bytes : List ℕ) → part_numbers (literal is_quoted bytes) ≡ []
literal-numbers true bytes = refl
literal-numbers false bytes = refl

dollar-bytes : (is_quoted are_quoted : Bool) (at : Mode) (rest : List ℕ) → GivesBytes (dollar is_quoted are_quoted at rest)
dollar-bytes is_quoted are_quoted at rest =
    bytes_if (begins_expansion (unspliced rest)) _ _ tt (literal-numbers are_quoted (DOLLAR ∷ []))

opened-bytes : (quote : ℕ) (inside outside : Mode) (text front : List ℕ) → GivesBytes (opened quote inside outside text front)
opened-bytes quote inside outside text [] = tt
opened-bytes quote inside outside text (byte ∷ rest) = bytes_if (byte == quote) _ _ refl tt

backslash-bytes : (at : Mode) (rest : List ℕ) → GivesBytes (backslash at rest)
backslash-bytes at [] = refl
backslash-bytes at (byte ∷ rest) = refl

escape-bytes : (is_quoted braces : Bool) (at : Mode) (rest : List ℕ) → GivesBytes (escape is_quoted braces at rest)
escape-bytes is_quoted braces at [] = literal-numbers is_quoted (BACKSLASH ∷ [])
escape-bytes is_quoted braces at (byte ∷ rest) =
    bytes_if (is_quoted_escape byte || (braces && (byte == CLOSE_BRACE))) _ _ (literal-numbers is_quoted (byte ∷ []))
    (literal-numbers is_quoted (BACKSLASH ∷ []))

unquoted-bytes : (of : Owner) (byte : ℕ) (rest : List ℕ) → GivesBytes (unquoted_at of byte rest)
unquoted-bytes of byte rest =
    bytes_if (byte == DOLLAR) _ _ (dollar-bytes false false (mode.Word of) rest) (bytes_if (byte == DOUBLE_QUOTE) _ _
    (opened-bytes DOUBLE_QUOTE (mode.DoubleQuotes of) (mode.Word of) rest (unspliced rest)) (bytes_if (byte == QUOTE) _ _
    (opened-bytes QUOTE (mode.SingleQuotes of) (mode.Word of) rest rest) (bytes_if (byte == BACKSLASH) _ _ (backslash-bytes (mode.Word of) rest)
    refl)))

in_quotes-bytes : (of : Owner) (byte : ℕ) (rest : List ℕ) → GivesBytes (in_quotes_at of byte rest)
in_quotes-bytes of byte rest =
    bytes_if (byte == DOLLAR) _ _ (dollar-bytes true true (mode.Word of) rest) (bytes_if (byte == DOUBLE_QUOTE) _ _
    (opened-bytes DOUBLE_QUOTE (mode.DoubleQuotes of) (mode.Word of) rest (unspliced rest)) (bytes_if (byte == BACKSLASH) _ _
    (escape-bytes true true (mode.Word of) rest) refl))

word-bytes : (of : Owner) (text : List ℕ) → GivesBytes (word_at of text)
word-bytes of [] = tt
word-bytes owner.Token (byte ∷ rest) = unquoted-bytes owner.Token byte rest
word-bytes (owner.Braces true) (byte ∷ rest) = bytes_if (byte == CLOSE_BRACE) _ _ tt (in_quotes-bytes (owner.Braces true) byte rest)
word-bytes (owner.Braces false) (byte ∷ rest) = bytes_if (byte == CLOSE_BRACE) _ _ tt (unquoted-bytes (owner.Braces false) byte rest)

double_quotes-bytes : (of : Owner) (text : List ℕ) → GivesBytes (double_quotes_at of text)
double_quotes-bytes of [] = tt
double_quotes-bytes of (byte ∷ rest) =
    bytes_if (byte == DOUBLE_QUOTE) _ _ tt (bytes_if (byte == DOLLAR) _ _ (dollar-bytes true true (mode.DoubleQuotes of) rest)
    (bytes_if (byte == BACKSLASH) _ _ (escape-bytes true false (mode.DoubleQuotes of) rest) refl))

single_quotes-bytes : (of : Owner) (text : List ℕ) → GivesBytes (single_quotes_at of text)
single_quotes-bytes of [] = tt
single_quotes-bytes of (byte ∷ rest) = bytes_if (byte == QUOTE) _ _ tt refl

closing-bytes : (text front : List ℕ) → GivesBytes (closing_at text front)
closing-bytes text [] = refl
closing-bytes text (byte ∷ rest) = bytes_if (byte == CLOSE) _ _ tt refl

arithmetic-bytes : (depth : ℕ) (text : List ℕ) → GivesBytes (arithmetic_at depth text)
arithmetic-bytes depth [] = tt
arithmetic-bytes depth (byte ∷ rest) =
    bytes_if (byte == CLOSE) _ _ (bytes_if (depth == 0) _ _ (closing-bytes rest (unspliced rest)) refl) (bytes_if (byte == OPEN) _ _ refl
    (bytes_if (byte == DOLLAR) _ _ (dollar-bytes true false (mode.Arithmetic depth) rest) (bytes_if (byte == BACKSLASH) _ _
    (escape-bytes false false (mode.Arithmetic depth) rest) refl)))

step-bytes : (at : Mode) (text : List ℕ) → GivesBytes (step at text)
step-bytes (mode.Word of) text = word-bytes of (unspliced text)
step-bytes (mode.DoubleQuotes of) text = double_quotes-bytes of (unspliced text)
step-bytes (mode.SingleQuotes of) text = single_quotes-bytes of text
step-bytes (mode.Arithmetic depth) text = arithmetic-bytes depth (unspliced text)

-- what is read has the numbers from its first one on to the next
abbrev IsCounted : ℕ → Outcome → Type 0
IsCounted number (done word fault next rest) = Counting number next (word_numbers word)

abbrev found_numbers : Option PartTree → List ℕ
found_numbers None = []
found_numbers (Some piece) = part_numbers piece

abbrev IsCountedPart : ℕ → Made → Type 0
IsCountedPart number (made found fault next rest) = Counting number next (found_numbers found)

onto-counted : (number : ℕ) (piece : PartTree) (end : Outcome) → part_numbers piece ≡ [] → IsCounted number end → IsCounted number (onto piece end)
onto-counted number piece (done word fault next rest) none counted =
    subst (Counting number next) (sym (before-numbers piece word ∙ ap (λ x. x ++ word_numbers word) none)) counted

found-counted : (number middle : ℕ) (found : Option PartTree) (earlier : Option ℕ) (end : Outcome) → Counting number middle (found_numbers found)
    → IsCounted middle end → IsCounted number (found_onto found earlier end)
found-counted number middle None earlier (done word fault next rest) front counted = counting_on front counted
found-counted number middle (Some piece) earlier (done word fault next rest) front counted =
    subst (Counting number next) (sym (before-numbers piece word)) (counting_on front counted)

bare-numbers : (measured : Bool) → form_numbers (bare_form measured) ≡ []
bare-numbers true = refl
bare-numbers false = refl

check-numbers : (colon : Bool) (word : WordTree) → form_numbers (check_form colon word) ≡ word_numbers word
check-numbers colon no_part = refl
check-numbers colon (part first rest) = refl

form-numbers : (by : Operator) (word : WordTree) → form_numbers (form_of by word) ≡ word_numbers word
form-numbers (operator.Default colon) word = refl
form-numbers (operator.Assign colon) word = refl
form-numbers (operator.Check colon) word = check-numbers colon word
form-numbers (operator.Alternate colon) word = refl
form-numbers (operator.CutSuffix longest) word = refl
form-numbers (operator.CutPrefix longest) word = refl

with_form-counted : (number : ℕ) (what : Param) (by : Operator) (is_quoted : Bool) (end : Outcome) → IsCounted number end
    → IsCountedPart number (with_form what by is_quoted end)
with_form-counted number what by is_quoted (done word fault next rest) counted = subst (Counting number next) (sym (form-numbers by word)) counted

calculated-counted : (number : ℕ) (is_quoted : Bool) (end : Outcome) → IsCounted number end → IsCountedPart number (calculated is_quoted end)
calculated-counted number is_quoted (done word fault next rest) counted = counted

mutual
  pieces-counted : {most number : ℕ} {at : Mode} {text : List ℕ} {end : Outcome} → ReadsPieces most at number text end → IsCounted number end
  pieces-counted (has_ended e) = none_more
  pieces-counted (passes_on e reads) = pieces-counted reads
  pieces-counted {number = number} {at = at} {text = text} (gives_piece {piece = piece} {end = end} e reads) =
      onto-counted number piece end (subst GivesBytes e (step-bytes at text)) (pieces-counted reads)
  pieces-counted {number = number} (expands_to {next = next} {found = found} {fault = fault} {end = end} e inside reads) =
      found-counted number next found fault end (expansion-counted inside) (pieces-counted reads)

  expansion-counted : {most left number : ℕ} {is_quoted : Bool} {text : List ℕ} {end : Made}
      → ReadsExpansion most is_quoted left number text end → IsCountedPart number end
  expansion-counted {number = number} (is_parameter {measured = measured} e) =
      subst (Counting number number) (sym (bare-numbers measured)) none_more
  expansion-counted (is_substitution e passed) = one_more none_more
  expansion-counted {number = number} {is_quoted = is_quoted} (has_word {what = what} {by = by} {end = end} e reads) =
      with_form-counted number what by is_quoted end (pieces-counted reads)
  expansion-counted {number = number} {is_quoted = is_quoted} (has_arithmetic {end = end} e reads) =
      calculated-counted number is_quoted end (pieces-counted reads)
  expansion-counted (has_no_form e passed) = none_more
  expansion-counted (word_too_deep e) = none_more
  expansion-counted (arithmetic_too_deep e) = none_more

-- a word's are as many as are told
word-numbered : (first total : ℕ) (end : Outcome) → IsCounted first end
    → word_numbers (word_outcome first total end).tree ≡ range_with_len first (word_outcome first total end).subs
word-numbered first total (done word fault next rest) counted =
    let (count, (end, is)) = as_range counted in is ∙ ap (range_with_len first) (omega (arith, end))

pub behind_numbered : (first total : ℕ) (text : List ℕ) (outcome : WordOutcome) → ReadsBehind first total text outcome
    → word_numbers outcome.tree ≡ range_with_len first outcome.subs
behind_numbered first total text outcome (end, (reads, is)) =
    subst (λ it. word_numbers it.tree ≡ range_with_len first it.subs) (sym is) (word-numbered first total end (pieces-counted reads))
