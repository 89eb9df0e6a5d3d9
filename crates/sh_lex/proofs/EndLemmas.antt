-- What stands behind the `)` of a command substitution changes nothing before it: two texts that are alike up to that `)` are read alike,
-- also where no more levels are open.
use Rattle.std.proofs.Common.{◌≡◌, ℕ, Bool, true, false, not, Option, None, Some, ◌+◌, ◌≤◌, ◌<◌, List, [], ◌∷◌, ◌++◌, ◌==◌, ◌&&◌, ◌||◌, ◌⊎◌, if◌then◌else◌, length, drop, refl, sym, ◌∙◌, ap, subst, append_assoc, inl, inr, arith}
use Rattle.std.specs.Prelude.{nat_lt}
use Rattle.std.proofs.lemmas.Bool.Decides.{nat_tests}
use Rattle.ps_lines.specs.Bytes.{is_name_start, is_name_byte}
use Rattle.std.specs.Char.{is_ascii_digit}
use Rattle.sh_lex.specs.Bytes.{is_blank, is_parameter, is_quoted_escape, ends_word}
use Rattle.sh_lex.specs.Texts.{fronts, from_first, unspliced, passing, run, behind_passing, behind_run, behind_quote, behind_comment, behind_backslash}
use Rattle.sh_lex.specs.Acts.{Act, goes, enters, ends, offends, Found, nothing, gap, open_parenthesis, close_parenthesis, token, word, offence}
use Rattle.sh_lex.specs.Numbers.{begins_with, fits_less, fits_great, number_at, after_digit}
use Rattle.sh_lex.specs.Operators.{has_no_word, is_number_or_target, is_target, and_at, pipe_at, semi_at, less_at, great_at, delimiter, lexeme_at, lexeme}
use Rattle.sh_lex.specs.Dollars.{deeper, inside_braces, opening, substitution, parenthesis, introduced_by, dollar_by, dollar_at, after_dollar, name_at}
use Rattle.sh_lex.specs.DoubleQuotes.{double_quotes_at}
use Rattle.sh_lex.specs.Heads.{Head, whole, with_word, no_form, trims, place_value, closing_brace, operator_at, colon_at, suffix_at, prefix_at, form_at, placed, parameter_at, measured_at, hash_at, formed_at, brace_head_at}
use Rattle.sh_lex.specs.Braces.{single_quotes, quote_in_braces, backslash_in_braces, braces_at, braces_word_at, head_at}
use Rattle.sh_lex.specs.Arithmetic.{expression_at, closing_at, arithmetic_at, parentheses_at}
use Rattle.sh_lex.specs.Commands.{is_tilde_spot, word_at, word_begin, between_at, word_end, in_word, in_commands}
use Rattle.sh_lex.specs.Reads.{act, Outcome, past, refused, Reads, goes_on, reads_inner, refused_inside, has_ended, offended}
use Rattle.sh_lex.proofs.Fronts.{length-unspliced}
use Rattle.sh_lex.proofs.OrderLemmas.{unspliced-twice}
use Rattle.sh_lex.proofs.StandLemmas.{close_stands}
use Rattle.sh_lex.proofs.KeepsLemmas.{IsKept, Keeps, unspliced-kept, behind_quote-kept, behind_comment-kept, act-kept, Reads-kept}
use Rattle.sh_lex.proofs.Readings.{Reads-Leaves}
use Rattle.sh_tree.specs.declared.words.Param.{Param}
use Rattle.sh_lex.specs.declared.heads.Operator.{Operator}
use Rattle.sh_lex.specs.declared.parts.Nest.{Nest}
use Rattle.sh_lex.specs.declared.parts.Construct.{Construct}
use Rattle.sh_lex.specs.declared.parts.Spot.{Spot}
use Rattle.sh_lex.specs.declared.parts.Construct.TheVariants as part
use Rattle.sh_lex.specs.declared.parts.Spot.TheVariants as spot
use Rattle.sh_lex.specs.declared.dollars.Introduced.{Introduced}
use Rattle.sh_lex.specs.declared.dollars.Introduced.TheVariants as introduced
use Rattle.sh_lex.specs.declared.parts.Fault.{Fault}
use Rattle.sh_lex.specs.declared.tokens.TokenKind.{TokenKind}
use Rattle.sh_lex.specs.declared.parts.TheConstants.{MAX_LEVELS}
use Rattle.sh_lex.specs.declared.bytes.TheConstants.{BACKSLASH, NEWLINE, CLOSE, QUOTE, DOUBLE_QUOTE, BACKQUOTE, DOLLAR, DASH, OPEN, CLOSE_BRACE, TILDE, HASH, AT, STAR, QUESTION, COLON, PERCENT, PLUS, EQUALS, AND, PIPE, SEMI, LESS, GREAT}

-- no more levels are open, and no `${` where none was
pub record IsLower (nest inside : Nest) : Type 0 where
  pub fewer : inside.levels ≤ nest.levels
  pub braces : nest.in_braces ≡ false → inside.in_braces ≡ false

pub data OpenAlike : Option ℕ → Option ℕ → Type 0 where
  none_open : OpenAlike None None
  one_open : {left place : ℕ} → OpenAlike (Some left) (Some place)

-- the same constructs but for where they opened, with no more levels open
pub data PartsAlike : Construct → Construct → Type 0 where
  alike_commands : {nest inside : Nest} {opened place : Option ℕ} {at : Spot} → IsLower nest inside → OpenAlike opened place
      → PartsAlike (part.Commands nest opened at) (part.Commands inside place at)
  alike_name : PartsAlike part.Name part.Name
  alike_quotes : {nest inside : Nest} {left place : ℕ} → IsLower nest inside
      → PartsAlike (part.DoubleQuotes nest left) (part.DoubleQuotes inside place)
  alike_brace_head : {nest inside : Nest} {left place : ℕ} {quoted : Bool} → IsLower nest inside
      → PartsAlike (part.BraceHead nest left quoted) (part.BraceHead inside place quoted)
  alike_braces : {nest inside : Nest} {left place : ℕ} {quoted : Bool} → IsLower nest inside
      → PartsAlike (part.Braces nest left quoted) (part.Braces inside place quoted)
  alike_arithmetic : {nest inside : Nest} {left place : ℕ} → IsLower nest inside
      → PartsAlike (part.Arithmetic nest left) (part.Arithmetic inside place)
  alike_parentheses : {nest inside : Nest} {left place : ℕ} → IsLower nest inside
      → PartsAlike (part.Parentheses nest left) (part.Parentheses inside place)

-- two texts are the same up to a `)`, behind which stand `behind` and `other`
pub data Alike (behind other : List ℕ) : List ℕ → List ℕ → Type 0 where
  at_end : Alike behind other (CLOSE ∷ behind) (CLOSE ∷ other)
  before : (byte : ℕ) {text copy : List ℕ} → Alike behind other text copy → Alike behind other (byte ∷ text) (byte ∷ copy)

-- so are their bytes without backslash-newlines
data FrontsAlike (behind other : List ℕ) : List (ℕ × List ℕ) → List (ℕ × List ℕ) → Type 0 where
  fronts_end : {all more : List (ℕ × List ℕ)} → FrontsAlike behind other ((CLOSE, behind) ∷ all) ((CLOSE, other) ∷ more)
  fronts_before : (byte : ℕ) {text copy : List ℕ} {all more : List (ℕ × List ℕ)} → Alike behind other text copy
      → FrontsAlike behind other all more → FrontsAlike behind other ((byte, text) ∷ all) ((byte, copy) ∷ more)

-- acts of a construct that go on before the `)` are alike
pub data ActsAlike (behind other : List ℕ) : Act → Act → Type 0 where
  both_go : {next next_copy : Construct} {rest copy : List ℕ} → PartsAlike next next_copy → Alike behind other rest copy
      → ActsAlike behind other (goes next rest) (goes next_copy copy)
  goes_past : {next : Construct} {rest : List ℕ} {does : Act} → length rest ≤ length behind → ActsAlike behind other (goes next rest) does
  both_enter : {inner outer inner_copy outer_copy : Construct} {rest copy : List ℕ} → PartsAlike inner inner_copy
      → PartsAlike outer outer_copy → Alike behind other rest copy
      → ActsAlike behind other (enters inner outer rest) (enters inner_copy outer_copy copy)
  both_end : {rest copy : List ℕ} → Alike behind other rest copy → ActsAlike behind other (ends rest) (ends copy)
  end_at_end : {rest copy : List ℕ} → rest ≡ behind → copy ≡ other → ActsAlike behind other (ends rest) (ends copy)
  ends_past : {rest : List ℕ} {does : Act} → length rest < length behind → ActsAlike behind other (ends rest) does
  refused_anyway : {fault : Fault} {does : Act} → ActsAlike behind other (offends fault) does

data FoundAlike (behind other : List ℕ) : Found → Found → Type 0 where
  alike_gap : {rest copy : List ℕ} → (length rest ≤ length behind) ⊎ Alike behind other rest copy
      → FoundAlike behind other (gap rest) (gap copy)
  alike_open : {rest copy : List ℕ} → Alike behind other rest copy
      → FoundAlike behind other (open_parenthesis rest) (open_parenthesis copy)
  alike_close : {rest copy : List ℕ} → Alike behind other rest copy
      → FoundAlike behind other (close_parenthesis rest) (close_parenthesis copy)
  close_at_end : {rest copy : List ℕ} → rest ≡ behind → copy ≡ other
      → FoundAlike behind other (close_parenthesis rest) (close_parenthesis copy)
  alike_token : {kind : TokenKind} {rest copy : List ℕ} → Alike behind other rest copy
      → FoundAlike behind other (token kind rest) (token kind copy)
  alike_word : FoundAlike behind other word word
  offence_anyway : {fault : Fault} {found : Found} → FoundAlike behind other (offence fault) found

data HeadsAlike (behind other : List ℕ) : Head → Head → Type 0 where
  alike_whole : {what other_what : Param} {measured other_measured : Bool} {rest copy : List ℕ} → Alike behind other rest copy
      → HeadsAlike behind other (whole what measured rest) (whole other_what other_measured copy)
  alike_with_word : {what other_what : Param} {by : Operator} {rest copy : List ℕ} → Alike behind other rest copy
      → HeadsAlike behind other (with_word what by rest) (with_word other_what by copy)
  alike_no_form : HeadsAlike behind other no_form no_form

data ParametersAlike (behind other : List ℕ) : Option (Param × Bool × List ℕ) → Option (Param × Bool × List ℕ) → Type 0 where
  no_parameter : ParametersAlike behind other None None
  alike_parameter : {what other_what : Param} {assigns : Bool} {rest copy : List ℕ} → Alike behind other rest copy
      → ParametersAlike behind other (Some (what, assigns, rest)) (Some (other_what, assigns, copy))

close_fronts : (rest : List ℕ) → fronts (CLOSE ∷ rest) ≡ (CLOSE, rest) ∷ fronts rest
unfolding fronts
close_fronts [] = refl
close_fronts (second ∷ rest) = refl

no_splice : (first : ℕ) (test : Bool) → (first == BACKSLASH) ≡ test → ((first == BACKSLASH) && (CLOSE == NEWLINE)) ≡ false
no_splice first true e = simp e refl
no_splice first false e = simp e refl

second_fronts : (first : ℕ) (rest : List ℕ) → fronts (first ∷ CLOSE ∷ rest) ≡ (first, CLOSE ∷ rest) ∷ fronts (CLOSE ∷ rest)
unfolding fronts
second_fronts first rest =
    ap (λ test. if test then fronts rest else (first, CLOSE ∷ rest) ∷ fronts (CLOSE ∷ rest)) (no_splice first (first == BACKSLASH) refl)

pair_fronts : (first second : ℕ) (rest : List ℕ) → fronts (first ∷ second ∷ rest)
    ≡ (if (first == BACKSLASH) && (second == NEWLINE) then fronts rest else (first, second ∷ rest) ∷ fronts (second ∷ rest))
unfolding fronts
pair_fronts first second rest = refl

lower_levels : (one two most : ℕ) → two ≤ one → nat_lt one most ≡ true → nat_lt two most ≡ true
lower_levels one two most h k = grind (arith, nat_tests)

same_difference : (a b c d x y : ℕ) → a + y ≡ c + x → b + y ≡ d + x → (a == b) ≡ (c == d)
same_difference a b c d x y h k = grind (arith, nat_tests)

deeper_lower : {nest inside : Nest} → IsLower nest inside → IsLower (deeper nest) (deeper inside)
deeper_lower lower = let fewer = lower.fewer in record { fewer = omega (arith, fewer); braces = lower.braces }

inside_lower : {nest inside : Nest} → IsLower nest inside → IsLower (inside_braces nest) (inside_braces inside)
inside_lower lower = let fewer = lower.fewer in record { fewer = omega (arith, fewer); braces = λ h. cc }

module _ (behind other : List ℕ) where
  abbrev Or : List ℕ → List ℕ → Type 0
  Or text copy = (length text ≤ length behind) ⊎ Alike behind other text copy

  alike_if : (test : Bool) {one two more rest : List ℕ} → Alike behind other one two → Alike behind other more rest
      → Alike behind other (if test then one else more) (if test then two else rest)
  alike_if true a b = a
  alike_if false a b = b

  or_if : (test : Bool) {one two more rest : List ℕ} → Or one two → Or more rest → Or (if test then one else more) (if test then two else rest)
  or_if true a b = a
  or_if false a b = b

  fronts_if : (test : Bool) {one two more rest : List (ℕ × List ℕ)} → FrontsAlike behind other one two
      → FrontsAlike behind other more rest → FrontsAlike behind other (if test then one else more) (if test then two else rest)
  fronts_if true a b = a
  fronts_if false a b = b

  found_if : (test : Bool) {one two more rest : Found} → FoundAlike behind other one two → FoundAlike behind other more rest
      → FoundAlike behind other (if test then one else more) (if test then two else rest)
  found_if true a b = a
  found_if false a b = b

  found_first_if : (test : Bool) {one more result : Found} → FoundAlike behind other one result → FoundAlike behind other more result
      → FoundAlike behind other (if test then one else more) result
  found_first_if true a b = a
  found_first_if false a b = b

  head_if : (test : Bool) {one two more rest : Head} → HeadsAlike behind other one two → HeadsAlike behind other more rest
      → HeadsAlike behind other (if test then one else more) (if test then two else rest)
  head_if true a b = a
  head_if false a b = b

  parameter_if : (test : Bool) {one two more rest : Option (Param × Bool × List ℕ)} → ParametersAlike behind other one two
      → ParametersAlike behind other more rest → ParametersAlike behind other (if test then one else more) (if test then two else rest)
  parameter_if true a b = a
  parameter_if false a b = b

  act_if : (test : Bool) {one two more rest : Act} → ActsAlike behind other one two → ActsAlike behind other more rest
      → ActsAlike behind other (if test then one else more) (if test then two else rest)
  act_if true a b = a
  act_if false a b = b

  act_first_if : (test : Bool) {one more does : Act} → ActsAlike behind other one does → ActsAlike behind other more does
      → ActsAlike behind other (if test then one else more) does
  act_first_if true a b = a
  act_first_if false a b = b

  go_or : {next next_copy : Construct} {rest copy : List ℕ} → PartsAlike next next_copy → Or rest copy
      → ActsAlike behind other (goes next rest) (goes next_copy copy)
  go_or parts (inl h) = goes_past h
  go_or parts (inr a) = both_go parts a

  -- how much longer they are
  longer : {text copy : List ℕ} → Alike behind other text copy → length behind < length text
  longer at_end = omega arith
  longer (before byte a) = let less = longer a in omega (arith, less)

  lengths : {text copy : List ℕ} → Alike behind other text copy → length text + length other ≡ length copy + length behind
  lengths at_end = omega arith
  lengths (before byte a) = let same = lengths a in omega (arith, same)

  -- texts without backslash-newlines, and runs
  fronts-alike : {text copy : List ℕ} → Alike behind other text copy → FrontsAlike behind other (fronts text) (fronts copy)
  fronts-alike at_end = rw (close_fronts behind, close_fronts other) fronts_end
  fronts-alike (before first at_end) =
      rw (second_fronts first behind, second_fronts first other, close_fronts behind, close_fronts other)
      (fronts_before first at_end fronts_end)
  fronts-alike (before first (before second {text = text} {copy = copy} a)) =
      rw (pair_fronts first second text, pair_fronts first second copy)
      (fronts_if ((first == BACKSLASH) && (second == NEWLINE)) (fronts-alike a) (fronts_before first (before second a) (fronts-alike (before second a))))

  first-alike : {all more : List (ℕ × List ℕ)} → FrontsAlike behind other all more → Alike behind other (from_first all) (from_first more)
  first-alike fronts_end = at_end
  first-alike (fronts_before byte a more) = before byte a

  unspliced-alike : {text copy : List ℕ} → Alike behind other text copy → Alike behind other (unspliced text) (unspliced copy)
  unfolding unspliced
  unspliced-alike a = first-alike (fronts-alike a)

  module _ (passes : ℕ → Bool) (stops : passes CLOSE ≡ false) where
    passing_same : {all more : List (ℕ × List ℕ)} → FrontsAlike behind other all more → passing passes all ≡ passing passes more
    passing_same fronts_end = simp stops refl
    passing_same (fronts_before byte a more) = ap (λ x. if passes byte then byte ∷ x else []) (passing_same more)

    run_same : {text copy : List ℕ} → Alike behind other text copy → run passes text ≡ run passes copy
    unfolding run
    run_same a = passing_same (fronts-alike a)

    passed-alike : {end place : List ℕ} {all more : List (ℕ × List ℕ)} → Alike behind other end place
        → FrontsAlike behind other all more → Alike behind other (behind_passing passes end all) (behind_passing passes place more)
    passed-alike a fronts_end = simp stops a
    passed-alike a (fronts_before byte b more) = alike_if (passes byte) (passed-alike b more) a

    behind_run-alike : {text copy : List ℕ} → Alike behind other text copy
        → Alike behind other (behind_run passes text) (behind_run passes copy)
    unfolding behind_run
    behind_run-alike a = passed-alike a (fronts-alike a)

  -- what is passed over whole may go on behind the `)`
  abbrev Fits : List ℕ → Type 0
  Fits text = length text ≤ length behind

  fits_kept : (byte : ℕ) (rest : List ℕ) → Fits (byte ∷ rest) → Fits rest
  fits_kept byte rest h = omega arith

  comment-alike : {text copy : List ℕ} → Alike behind other text copy → Or (behind_comment text) (behind_comment copy)
  comment-alike at_end = inl (behind_comment-kept Fits fits_kept behind (omega arith))
  comment-alike (before byte a) = or_if (byte == NEWLINE) (inr (before byte a)) (comment-alike a)

  drop-alike : {text copy : List ℕ} → Alike behind other text copy → Or (drop 1 text) (drop 1 copy)
  drop-alike at_end = inl (omega arith)
  drop-alike (before byte a) = inr a

  backslash-alike : (braces : Bool) {text copy : List ℕ} → Alike behind other text copy
      → Or (behind_backslash braces text) (behind_backslash braces copy)
  backslash-alike braces at_end = or_if (is_quoted_escape CLOSE || (braces && (CLOSE == CLOSE_BRACE))) (inl (omega arith)) (inr at_end)
  backslash-alike braces (before byte a) = or_if (is_quoted_escape byte || (braces && (byte == CLOSE_BRACE))) (inr a) (inr (before byte a))

  abbrev QuoteAlike : Option (List ℕ) → Option (List ℕ) → Type 0
  QuoteAlike None result = Unit {0}
  QuoteAlike (Some rest) result = Fits rest ⊎ ((copy : List ℕ) × (result ≡ Some copy) × Alike behind other rest copy)

  quote_if : (test : Bool) (rest copy : List ℕ) (one two : Option (List ℕ)) → Alike behind other rest copy → QuoteAlike one two
      → QuoteAlike (if test then Some rest else one) (if test then Some copy else two)
  quote_if true rest copy one two a q = inr (copy, refl, a)
  quote_if false rest copy one two a q = q

  quote_past : (found result : Option (List ℕ)) → behind_quote behind ≡ found → QuoteAlike found result
  quote_past None result e = tt
  quote_past (Some rest) result e = inl (behind_quote-kept Fits fits_kept behind rest (omega arith) e)

  quote-alike : {text copy : List ℕ} → Alike behind other text copy → QuoteAlike (behind_quote text) (behind_quote copy)
  quote-alike at_end = quote_past (behind_quote behind) (behind_quote other) refl
  quote-alike (before byte {text = text} {copy = copy} a) =
      quote_if (byte == QUOTE) text copy (behind_quote text) (behind_quote copy) a (quote-alike a)

  single-alike : (left place : ℕ) {next next_copy : Construct} (found result : Option (List ℕ)) → PartsAlike next next_copy
      → QuoteAlike found result → ActsAlike behind other (single_quotes left next found) (single_quotes place next_copy result)
  single-alike left place None result parts q = refused_anyway
  single-alike left place (Some rest) result parts (inl h) = goes_past h
  single-alike left place {next = next} {next_copy = next_copy} (Some rest) result parts (inr (copy, e, a)) =
      subst (λ r. ActsAlike behind other (goes next rest) (single_quotes place next_copy r)) (sym e) (both_go parts a)

  -- the beginning of a `${ }`
  closing-alike : (what other_what : Param) (measured : Bool) {text copy : List ℕ} → Alike behind other text copy
      → HeadsAlike behind other (closing_brace what measured text) (closing_brace other_what measured copy)
  closing-alike what other_what measured at_end = alike_no_form
  closing-alike what other_what measured (before byte a) = head_if (byte == CLOSE_BRACE) (alike_whole a) alike_no_form

  operator-alike : (assigns colon : Bool) (what other_what : Param) (byte : ℕ) {rest copy : List ℕ} → Alike behind other rest copy
      → HeadsAlike behind other (operator_at assigns colon what byte rest) (operator_at assigns colon other_what byte copy)
  operator-alike assigns colon what other_what byte a =
      head_if (byte == DASH) (alike_with_word a) (head_if (byte == QUESTION) (alike_with_word a) (head_if (byte == PLUS) (alike_with_word a)
      (head_if ((byte == EQUALS) && assigns) (alike_with_word a) alike_no_form)))

  colon-alike : (assigns : Bool) (what other_what : Param) {text copy : List ℕ} → Alike behind other text copy
      → HeadsAlike behind other (colon_at assigns what text) (colon_at assigns other_what copy)
  colon-alike assigns what other_what at_end = no_end assigns
    where
      no_end : (assigns : Bool) → HeadsAlike behind other (operator_at assigns true what CLOSE behind) (operator_at assigns true other_what CLOSE other)
      no_end true = alike_no_form
      no_end false = alike_no_form
  colon-alike assigns what other_what (before byte a) = operator-alike assigns true what other_what byte a

  suffix-alike : (what other_what : Param) {text copy front front_copy : List ℕ} → Alike behind other text copy
      → Alike behind other front front_copy → HeadsAlike behind other (suffix_at what text front) (suffix_at other_what copy front_copy)
  suffix-alike what other_what t at_end = alike_with_word t
  suffix-alike what other_what t (before byte a) = head_if (byte == PERCENT) (alike_with_word a) (alike_with_word t)

  prefix-alike : (what other_what : Param) {text copy front front_copy : List ℕ} → Alike behind other text copy
      → Alike behind other front front_copy → HeadsAlike behind other (prefix_at what text front) (prefix_at other_what copy front_copy)
  prefix-alike what other_what t at_end = alike_with_word t
  prefix-alike what other_what t (before byte a) = head_if (byte == HASH) (alike_with_word a) (alike_with_word t)

  form-alike : (assigns : Bool) (what other_what : Param) {text copy : List ℕ} → Alike behind other text copy
      → HeadsAlike behind other (form_at assigns what text) (form_at assigns other_what copy)
  form-alike assigns what other_what at_end = no_end assigns
    where
      no_end : (assigns : Bool) → HeadsAlike behind other (form_at assigns what (CLOSE ∷ behind)) (form_at assigns other_what (CLOSE ∷ other))
      no_end true = alike_no_form
      no_end false = alike_no_form
  form-alike assigns what other_what (before byte a) =
      head_if (byte == CLOSE_BRACE) (alike_whole a) (head_if (byte == COLON) (colon-alike assigns what other_what (unspliced-alike a))
      (head_if (byte == PERCENT) (suffix-alike what other_what a (unspliced-alike a))
      (head_if (byte == HASH) (prefix-alike what other_what a (unspliced-alike a)) (operator-alike assigns false what other_what byte a))))

  placed-alike : (value : Option ℕ) {rest copy : List ℕ} → Alike behind other rest copy
      → ParametersAlike behind other (placed value rest) (placed value copy)
  placed-alike None a = no_parameter
  placed-alike (Some number) a = alike_parameter a

  parameter-alike : (byte : ℕ) {rest copy : List ℕ} → Alike behind other rest copy
      → ParametersAlike behind other (parameter_at byte rest) (parameter_at byte copy)
  parameter-alike byte {rest = rest} {copy = copy} a =
      parameter_if (is_name_start byte) (alike_parameter (behind_run-alike is_name_byte refl a))
      (parameter_if (is_ascii_digit byte)
      (subst (λ digits. ParametersAlike behind other (placed (place_value (byte ∷ run is_ascii_digit rest)) (behind_run is_ascii_digit rest))
      (placed (place_value (byte ∷ digits)) (behind_run is_ascii_digit copy))) (run_same is_ascii_digit refl a)
      (placed-alike (place_value (byte ∷ run is_ascii_digit rest)) (behind_run-alike is_ascii_digit refl a)))
      (parameter_if (byte == QUESTION) (alike_parameter a) no_parameter))

  measured-alike : {found result : Option (Param × Bool × List ℕ)} → ParametersAlike behind other found result
      → HeadsAlike behind other (measured_at found) (measured_at result)
  measured-alike no_parameter = alike_no_form
  measured-alike (alike_parameter {what = what} {other_what = other_what} a) = closing-alike what other_what true (unspliced-alike a)

  formed-alike : {found result : Option (Param × Bool × List ℕ)} → ParametersAlike behind other found result
      → HeadsAlike behind other (formed_at found) (formed_at result)
  formed-alike no_parameter = alike_no_form
  formed-alike (alike_parameter {what = what} {other_what = other_what} {assigns = assigns} a) = form-alike assigns what other_what (unspliced-alike a)

  hash-alike : {text copy : List ℕ} → Alike behind other text copy → HeadsAlike behind other (hash_at text) (hash_at copy)
  hash-alike at_end = alike_no_form
  hash-alike (before byte a) = head_if (byte == CLOSE_BRACE) (alike_whole a) (measured-alike (parameter-alike byte a))

  brace_head-alike : {text copy : List ℕ} → Alike behind other text copy → HeadsAlike behind other (brace_head_at text) (brace_head_at copy)
  brace_head-alike at_end = alike_no_form
  brace_head-alike (before byte a) =
      head_if (byte == HASH) (hash-alike (unspliced-alike a)) (head_if (byte == AT) (closing-alike _ _ false (unspliced-alike a))
      (head_if (byte == STAR) (closing-alike _ _ false (unspliced-alike a)) (formed-alike (parameter-alike byte a))))

  -- what a `$` begins
  no_truth : {A : Type 0} → false ≡ true → A
  no_truth e = cc

  no_falsehood : {A : Type 0} → true ≡ false → A
  no_falsehood e = cc

  opening_by : (one two : Bool) (does result : Act) (fault fault_copy : Fault) → (one ≡ true → two ≡ true)
      → ActsAlike behind other does result
      → ActsAlike behind other (if one then does else offends fault) (if two then result else offends fault_copy)
  opening_by true true does result fault fault_copy h a = a
  opening_by true false does result fault fault_copy h a = no_truth (h refl)
  opening_by false two does result fault fault_copy h a = refused_anyway

  substitution_by : (one two : Bool) (does result : Act) (fault fault_copy : Fault) → (one ≡ false → two ≡ false)
      → ActsAlike behind other does result
      → ActsAlike behind other (if one then offends fault else does) (if two then offends fault_copy else result)
  substitution_by true two does result fault fault_copy h a = refused_anyway
  substitution_by false true does result fault fault_copy h a = no_falsehood (h refl)
  substitution_by false false does result fault fault_copy h a = a

  close_introduces : introduced_by CLOSE ≡ introduced.Nothing
  unfolding introduced_by is_parameter
  close_introduces = refl

  module _ {nest inside : Nest} (lower : IsLower nest inside) (left place : ℕ) where
    opening-alike : {inner outer inner_copy outer_copy : Construct} {rest copy : List ℕ} → PartsAlike inner inner_copy
        → PartsAlike outer outer_copy → Alike behind other rest copy
        → ActsAlike behind other (opening nest left inner outer rest) (opening inside place inner_copy outer_copy copy)
    opening-alike inner outer a =
        opening_by (nat_lt nest.levels MAX_LEVELS) (nat_lt inside.levels MAX_LEVELS) _ _ _ _
        (lower_levels nest.levels inside.levels MAX_LEVELS lower.fewer) (both_enter inner outer a)

    substitution-alike : {outer outer_copy : Construct} {rest copy : List ℕ} → PartsAlike outer outer_copy → Alike behind other rest copy
        → ActsAlike behind other (substitution nest left outer rest) (substitution inside place outer_copy copy)
    substitution-alike outer a =
        substitution_by nest.in_braces inside.in_braces _ _ _ _ lower.braces
        (opening-alike (alike_commands (deeper_lower lower) one_open) outer a)

    parenthesis-alike : {outer outer_copy : Construct} {inner inner_copy text copy : List ℕ} → PartsAlike outer outer_copy
        → Alike behind other inner inner_copy → Alike behind other text copy
        → ActsAlike behind other (parenthesis nest left outer inner text) (parenthesis inside place outer_copy inner_copy copy)
    parenthesis-alike outer i at_end = substitution-alike outer i
    parenthesis-alike outer i (before byte a) =
        act_if (byte == OPEN) (opening-alike (alike_arithmetic (deeper_lower lower)) outer a) (substitution-alike outer i)

    by-alike : (what : Introduced) (quoted : Bool) {outer outer_copy : Construct} {text copy rest rest_copy : List ℕ} → PartsAlike outer outer_copy
        → Alike behind other text copy → Alike behind other rest rest_copy
        → ActsAlike behind other (dollar_by what nest quoted left outer text rest) (dollar_by what inside quoted place outer_copy copy rest_copy)
    by-alike (introduced.OutOfProfile spelling) quoted outer t a = refused_anyway
    by-alike introduced.Braces quoted outer t a = opening-alike (alike_brace_head (inside_lower lower)) outer a
    by-alike introduced.Parenthesis quoted outer t a = parenthesis-alike outer a (unspliced-alike a)
    by-alike introduced.Name quoted outer t a = both_enter alike_name outer a
    by-alike introduced.Special quoted outer t a = both_go outer a
    by-alike introduced.Nothing quoted outer t a = both_go outer t

    -- nothing is introduced by the `)` itself
    close-alike : (what : Introduced) → what ≡ introduced.Nothing → (quoted : Bool) {outer outer_copy : Construct} {text copy : List ℕ}
        → PartsAlike outer outer_copy → Alike behind other text copy
        → ActsAlike behind other (dollar_by what nest quoted left outer text behind) (dollar_by what inside quoted place outer_copy copy other)
    close-alike what is quoted {outer = outer} {outer_copy = outer_copy} {text = text} {copy = copy} parts t =
        subst
        (λ it. ActsAlike behind other (dollar_by it nest quoted left outer text behind) (dollar_by it inside quoted place outer_copy copy other))
        (sym is) (both_go parts t)

    dollar-alike : (quoted : Bool) {outer outer_copy : Construct} {text copy front front_copy : List ℕ} → PartsAlike outer outer_copy
        → Alike behind other text copy → Alike behind other front front_copy
        → ActsAlike behind other (dollar_at nest quoted left outer text front) (dollar_at inside quoted place outer_copy copy front_copy)
    dollar-alike quoted outer t at_end = close-alike (introduced_by CLOSE) close_introduces quoted outer t
    dollar-alike quoted outer t (before byte a) = by-alike (introduced_by byte) quoted outer t a

    after_dollar-alike : (quoted : Bool) {outer outer_copy : Construct} {text copy : List ℕ} → PartsAlike outer outer_copy
        → Alike behind other text copy
        → ActsAlike behind other (after_dollar nest quoted left outer text) (after_dollar inside quoted place outer_copy copy)
    after_dollar-alike quoted outer t = dollar-alike quoted outer t (unspliced-alike t)

  name-alike : {text copy front front_copy : List ℕ} → Alike behind other text copy → Alike behind other front front_copy
      → ActsAlike behind other (name_at text front) (name_at copy front_copy)
  name-alike t at_end = both_end t
  name-alike t (before byte a) = act_if (is_name_byte byte) (both_go alike_name a) (both_end t)

  -- the constructs
  module _ {nest inside : Nest} (lower : IsLower nest inside) where
    quotes-alike : (left place : ℕ) {text copy : List ℕ} → Alike behind other text copy
        → ActsAlike behind other (double_quotes_at nest left text) (double_quotes_at inside place copy)
    quotes-alike left place at_end = goes_past (omega arith)
    quotes-alike left place (before byte {text = text} {copy = copy} a) =
        act_if (byte == DOUBLE_QUOTE) (both_end a) (act_if (byte == BACKQUOTE) refused_anyway
        (act_if (byte == DOLLAR) (after_dollar-alike lower (length text + 1) (length copy + 1) true (alike_quotes lower) a)
        (act_if (byte == BACKSLASH) (go_or (alike_quotes lower) (backslash-alike false a)) (both_go (alike_quotes lower) a))))

    quote_in-alike : (left place : ℕ) (quoted : Bool) {rest copy : List ℕ} → Alike behind other rest copy
        → ActsAlike behind other (quote_in_braces nest left quoted rest) (quote_in_braces inside place quoted copy)
    quote_in-alike left place true a = both_go (alike_braces lower) a
    quote_in-alike left place false {rest = rest} {copy = copy} a =
        single-alike (length rest + 1) (length copy + 1) (behind_quote rest) (behind_quote copy) (alike_braces lower) (quote-alike a)

    backslash_in-alike : (left place : ℕ) (quoted : Bool) {rest copy : List ℕ} → Alike behind other rest copy
        → ActsAlike behind other (backslash_in_braces nest left quoted rest) (backslash_in_braces inside place quoted copy)
    backslash_in-alike left place true a = go_or (alike_braces lower) (backslash-alike true a)
    backslash_in-alike left place false a = go_or (alike_braces lower) (drop-alike a)

    braces-alike : (left place : ℕ) (quoted : Bool) {text copy : List ℕ} → Alike behind other text copy
        → ActsAlike behind other (braces_at nest left quoted text) (braces_at inside place quoted copy)
    braces-alike left place quoted at_end = goes_past (omega arith)
    braces-alike left place quoted (before byte {text = text} {copy = copy} a) =
        act_if (byte == CLOSE_BRACE) (both_end a) (act_if (byte == BACKQUOTE) refused_anyway
        (act_if (byte == DOLLAR) (after_dollar-alike lower (length text + 1) (length copy + 1) quoted (alike_braces lower) a)
        (act_if (byte == DOUBLE_QUOTE) (both_enter (alike_quotes lower) (alike_braces lower) a)
        (act_if (byte == QUOTE) (quote_in-alike left place quoted a)
        (act_if (byte == BACKSLASH) (backslash_in-alike left place quoted a) (both_go (alike_braces lower) a))))))

    braces_word-alike : (left place : ℕ) (quoted : Bool) {text copy : List ℕ} → Alike behind other text copy
        → ActsAlike behind other (braces_word_at nest left quoted text) (braces_word_at inside place quoted copy)
    braces_word-alike left place quoted at_end = goes_past (omega arith)
    braces_word-alike left place quoted (before byte a) =
        act_if ((byte == TILDE) && not quoted) refused_anyway (braces-alike left place quoted (before byte a))

    head-alike : (left place : ℕ) (quoted : Bool) {text copy : List ℕ} {found result : Head} → Alike behind other text copy
        → HeadsAlike behind other found result
        → ActsAlike behind other (head_at nest left quoted text found) (head_at inside place quoted copy result)
    head-alike left place quoted t (alike_whole a) = both_end a
    head-alike left place quoted t (alike_with_word {by = by} a) = braces_word-alike left place (quoted && not (trims by)) (unspliced-alike a)
    head-alike left place quoted t alike_no_form = braces-alike left place quoted (unspliced-alike t)

    expression-alike : {self self_copy : Construct} → PartsAlike self self_copy → (left place : ℕ) (byte : ℕ) {rest copy : List ℕ}
        → Alike behind other rest copy
        → ActsAlike behind other (expression_at nest left self byte rest) (expression_at inside place self_copy byte copy)
    expression-alike selves left place byte {rest = rest} {copy = copy} a =
        act_if (byte == OPEN) (both_enter (alike_parentheses lower) selves a) (act_if (byte == BACKQUOTE) refused_anyway
        (act_if (byte == DOLLAR) (after_dollar-alike lower (length rest + 1) (length copy + 1) true selves a)
        (act_if (byte == BACKSLASH) (go_or selves (backslash-alike false a)) (both_go selves a))))

    closing_in-alike : (left place : ℕ) {text copy front front_copy : List ℕ} → Alike behind other text copy
        → Alike behind other front front_copy
        → ActsAlike behind other (closing_at nest left text front) (closing_at inside place copy front_copy)
    closing_in-alike left place t at_end = end_at_end refl refl
    closing_in-alike left place t (before byte a) = act_if (byte == CLOSE) (both_end a) (both_go (alike_arithmetic lower) t)

    closing_past : (left : ℕ) (front : List ℕ) (does : Act) → Fits front → ActsAlike behind other (closing_at nest left behind front) does
    closing_past left [] does h = goes_past (omega arith)
    closing_past left (byte ∷ rest) does h = act_first_if (byte == CLOSE) (ends_past (omega arith)) (goes_past (omega arith))

    arithmetic-alike : (left place : ℕ) {text copy : List ℕ} → Alike behind other text copy
        → ActsAlike behind other (arithmetic_at nest left text) (arithmetic_at inside place copy)
    arithmetic-alike left place at_end = closing_past left (unspliced behind) _ (length-unspliced behind)
    arithmetic-alike left place (before byte a) =
        act_if (byte == CLOSE) (closing_in-alike left place a (unspliced-alike a)) (expression-alike (alike_arithmetic lower) left place byte a)

    parentheses-alike : (left place : ℕ) {text copy : List ℕ} → Alike behind other text copy
        → ActsAlike behind other (parentheses_at nest left text) (parentheses_at inside place copy)
    parentheses-alike left place at_end = end_at_end refl refl
    parentheses-alike left place (before byte a) = act_if (byte == CLOSE) (both_end a) (expression-alike (alike_parentheses lower) left place byte a)

  -- what begins where a token may begin
  begins_same : (wanted : ℕ) {text copy : List ℕ} → Alike behind other text copy → begins_with wanted text ≡ begins_with wanted copy
  begins_same wanted at_end = refl
  begins_same wanted (before byte a) = refl

  no_word_same : {text copy : List ℕ} → Alike behind other text copy → has_no_word text ≡ has_no_word copy
  no_word_same at_end = refl
  no_word_same (before byte a) = refl

  target_byte_same : (digit : ℕ) {rest copy : List ℕ} → Alike behind other rest copy
      → is_number_or_target digit rest ≡ is_number_or_target digit copy
  target_byte_same digit a =
      rw (
        begins_same LESS (unspliced-alike (behind_run-alike is_ascii_digit refl a)),
        begins_same GREAT (unspliced-alike (behind_run-alike is_ascii_digit refl a)),
        no_word_same (unspliced-alike a),
      ) refl

  target_same : {text copy : List ℕ} → Alike behind other text copy → is_target text ≡ is_target copy
  unfolding ends_word
  target_same at_end = refl
  target_same (before byte a) = ap (λ x. ends_word byte || (byte == HASH) || (is_ascii_digit byte && x)) (target_byte_same byte a)

  and-alike : (left place : ℕ) {front front_copy : List ℕ} → Alike behind other front front_copy
      → FoundAlike behind other (and_at left front) (and_at place front_copy)
  and-alike left place at_end = offence_anyway
  and-alike left place (before byte a) = found_if (byte == AND) (alike_token a) offence_anyway

  pipe-alike : {text copy front front_copy : List ℕ} → Alike behind other text copy → Alike behind other front front_copy
      → FoundAlike behind other (pipe_at text front) (pipe_at copy front_copy)
  pipe-alike t at_end = alike_token t
  pipe-alike t (before byte a) = found_if (byte == PIPE) (alike_token a) (alike_token t)

  semi-alike : (left place : ℕ) {text copy front front_copy : List ℕ} → Alike behind other text copy → Alike behind other front front_copy
      → FoundAlike behind other (semi_at left text front) (semi_at place copy front_copy)
  semi-alike left place t at_end = alike_token t
  semi-alike left place t (before byte a) = found_if (byte == SEMI) offence_anyway (alike_token t)

  less-alike : (left place : ℕ) {text copy front front_copy : List ℕ} → Alike behind other text copy → Alike behind other front front_copy
      → FoundAlike behind other (less_at left text front) (less_at place copy front_copy)
  less-alike left place t at_end = alike_token t
  less-alike left place t (before byte {text = rest} {copy = copy} a) =
      found_if (byte == LESS) (found_first_if (begins_with DASH (unspliced rest)) offence_anyway offence_anyway)
      (found_if (byte == AND) offence_anyway (found_if (byte == GREAT) offence_anyway (alike_token t)))

  token-alike : (kind : TokenKind) (fault fault_copy : Fault) {rest copy : List ℕ} (one two : Bool) → one ≡ two
      → Alike behind other rest copy
      → FoundAlike behind other (if one then token kind rest else offence fault) (if two then token kind copy else offence fault_copy)
  token-alike kind fault fault_copy one two e a = rw e (found_if two (alike_token a) offence_anyway)

  great-alike : (left place : ℕ) {text copy front front_copy : List ℕ} → Alike behind other text copy → Alike behind other front front_copy
      → FoundAlike behind other (great_at left text front) (great_at place copy front_copy)
  great-alike left place t at_end = alike_token t
  great-alike left place t (before byte {text = rest} {copy = copy} a) =
      found_if (byte == GREAT) (alike_token a) (found_if (byte == PIPE) offence_anyway
      (found_if (byte == AND) (token-alike _ _ _ (is_target (unspliced (behind_run is_blank rest))) (is_target (unspliced (behind_run is_blank copy)))
      (target_same (unspliced-alike (behind_run-alike is_blank refl a))) a) (alike_token t)))

  delimiter-alike : (byte : ℕ) {rest copy : List ℕ} → Alike behind other rest copy
      → FoundAlike behind other (delimiter byte rest) (delimiter byte copy)
  delimiter-alike byte {rest = rest} {copy = copy} a =
      let front = unspliced-alike a in
      found_if (byte == NEWLINE) (alike_token a) (found_if (byte == AND) (and-alike (length rest + 1) (length copy + 1) front)
      (found_if (byte == PIPE) (pipe-alike a front) (found_if (byte == SEMI) (semi-alike (length rest + 1) (length copy + 1) a front)
      (found_if (byte == OPEN) (alike_open a) (found_if (byte == CLOSE) (alike_close a)
      (found_if (byte == LESS) (less-alike (length rest + 1) (length copy + 1) a front)
      (found_if (byte == GREAT) (great-alike (length rest + 1) (length copy + 1) a front) (alike_gap (inr a)))))))))

  less_fits_same : (digit : ℕ) (single : Bool) {text copy : List ℕ} → Alike behind other text copy
      → fits_less digit single text ≡ fits_less digit single copy
  less_fits_same digit single a = rw (begins_same LESS a, begins_same AND a, begins_same GREAT a) refl

  great_fits_same : (digit : ℕ) (single : Bool) {text copy : List ℕ} → Alike behind other text copy
      → fits_great digit single text ≡ fits_great digit single copy
  great_fits_same digit single a = rw (begins_same PIPE a) refl

  number-alike : (digit left place : ℕ) (single : Bool) {text copy front front_copy : List ℕ} → Alike behind other text copy
      → Alike behind other front front_copy
      → FoundAlike behind other (number_at digit left single text front) (number_at digit place single copy front_copy)
  number-alike digit left place single t at_end = alike_word
  number-alike digit left place single t (before byte {text = rest} {copy = copy} a) =
      found_if (byte == LESS) (token-alike _ _ _ (fits_less digit single (unspliced rest)) (fits_less digit single (unspliced copy))
      (less_fits_same digit single (unspliced-alike a)) t)
      (found_if (byte == GREAT) (token-alike _ _ _ (fits_great digit single (unspliced rest)) (fits_great digit single (unspliced copy))
      (great_fits_same digit single (unspliced-alike a)) t) alike_word)

  digit-alike : (digit : ℕ) {rest copy : List ℕ} → Alike behind other rest copy
      → FoundAlike behind other (after_digit digit rest) (after_digit digit copy)
  digit-alike digit {rest = rest} {copy = copy} a =
      let all = behind_run-alike is_ascii_digit refl a in
      subst (λ single. FoundAlike behind other (after_digit digit rest)
      (number_at digit (length copy + 1) single (behind_run is_ascii_digit copy) (unspliced (behind_run is_ascii_digit copy))))
      (same_difference (length (behind_run is_ascii_digit rest)) (length rest) (length (behind_run is_ascii_digit copy)) (length copy) (length behind) (length other)
      (lengths all) (lengths a))
      (number-alike digit (length rest + 1) (length copy + 1) (length (behind_run is_ascii_digit rest) == length rest) all (unspliced-alike all))

  lexeme_at-alike : {text copy : List ℕ} → Alike behind other text copy → FoundAlike behind other (lexeme_at text) (lexeme_at copy)
  unfolding ends_word
  lexeme_at-alike at_end = close_at_end refl refl
  lexeme_at-alike (before byte a) =
      found_if (ends_word byte) (delimiter-alike byte a) (found_if (byte == HASH) (alike_gap (comment-alike a))
      (found_if (is_ascii_digit byte) (digit-alike byte a) alike_word))

  lexeme-alike : {text copy : List ℕ} → Alike behind other text copy → FoundAlike behind other (lexeme text) (lexeme copy)
  lexeme-alike a = lexeme_at-alike (unspliced-alike a)

  module _ {nest inside : Nest} (lower : IsLower nest inside) where
    word-alike : {opened place : Option ℕ} → OpenAlike opened place → (at : Spot) (byte : ℕ) {rest copy : List ℕ} → Alike behind other rest copy
        → ActsAlike behind other (word_at nest opened at byte rest) (word_at inside place at byte copy)
    word-alike o at byte {rest = rest} {copy = copy} a =
        act_if (byte == QUOTE) (single-alike (length rest + 1) (length copy + 1) (behind_quote rest) (behind_quote copy) (alike_commands lower o) (quote-alike a))
        (act_if (byte == DOUBLE_QUOTE) (both_enter (alike_quotes lower) (alike_commands lower o) a)
        (act_if (byte == BACKSLASH) (go_or (alike_commands lower o) (drop-alike a)) (act_if (byte == BACKQUOTE) refused_anyway
        (act_if (byte == DOLLAR) (after_dollar-alike lower (length rest + 1) (length copy + 1) false (alike_commands lower o) a)
        (act_if ((byte == TILDE) && is_tilde_spot at) refused_anyway (both_go (alike_commands lower o) a))))))

    word_begin-alike : (opened place : ℕ) {front copy : List ℕ} → Alike behind other front copy
        → ActsAlike behind other (word_begin nest opened front) (word_begin inside place copy)
    word_begin-alike opened place at_end = goes_past (omega arith)
    word_begin-alike opened place (before byte a) = word-alike one_open spot.Begin byte a

    between-alike : (opened place : ℕ) {text copy : List ℕ} {found result : Found} → Alike behind other text copy
        → FoundAlike behind other found result
        → ActsAlike behind other (between_at nest opened text found) (between_at inside place copy result)
    between-alike opened place t (alike_gap a) = go_or (alike_commands lower one_open) a
    between-alike opened place t (alike_open a) = both_enter (alike_commands lower one_open) (alike_commands lower one_open) a
    between-alike opened place t (alike_close a) = both_end a
    between-alike opened place t (close_at_end e k) = end_at_end e k
    between-alike opened place t (alike_token a) = both_go (alike_commands lower one_open) a
    between-alike opened place t alike_word = word_begin-alike opened place (unspliced-alike t)
    between-alike opened place t offence_anyway = refused_anyway

    word_end-alike : {opened place : Option ℕ} {text copy : List ℕ} → OpenAlike opened place → Alike behind other text copy
        → ActsAlike behind other (word_end nest opened text) (word_end inside place copy)
    word_end-alike none_open t = both_end t
    word_end-alike (one_open {left = left} {place = place}) t = between-alike left place t (lexeme-alike t)

    in_word-alike : {opened place : Option ℕ} {text copy front front_copy : List ℕ} → OpenAlike opened place → (at : Spot)
        → Alike behind other text copy → Alike behind other front front_copy
        → ActsAlike behind other (in_word nest opened at text front) (in_word inside place at copy front_copy)
    unfolding ends_word
    in_word-alike o at t at_end = word_end-alike o t
    in_word-alike o at t (before byte a) = act_if (ends_word byte) (word_end-alike o t) (word-alike o at byte a)

    commands-alike : {opened place : Option ℕ} {text copy : List ℕ} → OpenAlike opened place → (at : Spot) → Alike behind other text copy
        → ActsAlike behind other (in_commands nest opened at text) (in_commands inside place at copy)
    commands-alike o spot.Between t = word_end-alike o t
    commands-alike o spot.Begin t = in_word-alike o spot.Begin t (unspliced-alike t)
    commands-alike o spot.Name t = in_word-alike o spot.Name t (unspliced-alike t)
    commands-alike o spot.ValueBegin t = in_word-alike o spot.ValueBegin t (unspliced-alike t)
    commands-alike o spot.Value t = in_word-alike o spot.Value t (unspliced-alike t)
    commands-alike o spot.Elsewhere t = in_word-alike o spot.Elsewhere t (unspliced-alike t)

  act-alike : {construct copy_construct : Construct} {text copy : List ℕ} → PartsAlike construct copy_construct → Alike behind other text copy
      → ActsAlike behind other (act construct text) (act copy_construct copy)
  act-alike (alike_commands {at = at} lower o) t = commands-alike lower o at t
  act-alike alike_name t = name-alike t (unspliced-alike t)
  act-alike (alike_quotes {left = left} {place = place} lower) t = quotes-alike lower left place (unspliced-alike t)
  act-alike (alike_brace_head {left = left} {place = place} {quoted = quoted} lower) t =
      head-alike lower left place quoted t (brace_head-alike (unspliced-alike t))
  act-alike (alike_braces {left = left} {place = place} {quoted = quoted} lower) t = braces-alike lower left place quoted (unspliced-alike t)
  act-alike (alike_arithmetic {left = left} {place = place} lower) t = arithmetic-alike lower left place (unspliced-alike t)
  act-alike (alike_parentheses {left = left} {place = place} lower) t = parentheses-alike lower left place (unspliced-alike t)

  -- a construct that ends before the `)` ends there in the other text too
  abbrev EndsAlike : Construct → List ℕ → Outcome → Type 0
  EndsAlike construct copy (past after) = Fits after ⊎ ((left : List ℕ) × Alike behind other after left × Reads construct copy (past left))
  EndsAlike construct copy (refused fault) = Unit {0}

  abbrev Reading : Construct → List ℕ → Outcome → Type 0
  Reading construct text end = (part : Construct) (copy : List ℕ) → PartsAlike construct part → Alike behind other text copy → EndsAlike part copy end

  go_ends : {next : Construct} {rest : List ℕ} {does : Act} (part : Construct) (copy : List ℕ) (end : Outcome) → act part copy ≡ does
      → Reads next rest end → ActsAlike behind other (goes next rest) does → Reading next rest end → EndsAlike part copy end
  go_ends part copy (refused fault) e reads acts more = tt
  go_ends part copy (past after) e reads (goes_past h) more = let less = Reads-Leaves reads in inl (omega (arith, h, less))
  go_ends part copy (past after) e reads (both_go {next_copy = next} {copy = rest} p a) more =
      elim (more next rest p a) [ inl h ↦ inl h | inr (left, b, r) ↦ inr (left, b, goes_on e r) ]

  enter_ends : {inner outer : Construct} {rest middle : List ℕ} {does : Act} (part : Construct) (copy : List ℕ) (end : Outcome)
      → act part copy ≡ does → Reads outer middle end → ActsAlike behind other (enters inner outer rest) does
      → Reading inner rest (past middle) → Reading outer middle end → EndsAlike part copy end
  enter_ends part copy (refused fault) e reads acts inside outside = tt
  enter_ends part copy (past after) e reads (both_enter {inner_copy = inner} {outer_copy = outer} {copy = rest} i o a) inside outside =
      elim (inside inner rest i a) [
        | inl h ↦ let less = Reads-Leaves reads in inl (omega (arith, h, less))
        | inr (left, b, r) ↦ elim (outside outer left o b) [ inl h ↦ inl h | inr (last, c, q) ↦ inr (last, c, reads_inner e r q) ]
      ]

  end_ends : {rest : List ℕ} {does : Act} (part : Construct) (copy : List ℕ) → act part copy ≡ does → ActsAlike behind other (ends rest) does
      → EndsAlike part copy (past rest)
  end_ends part copy e (both_end {copy = left} a) = inr (left, a, has_ended e)
  end_ends part copy e (end_at_end k m) = let same = ap length k in inl (omega (arith, same))
  end_ends part copy e (ends_past h) = inl (omega (arith, h))

  acts_by : {construct part : Construct} {text copy : List ℕ} {does : Act} → act construct text ≡ does → PartsAlike construct part
      → Alike behind other text copy → ActsAlike behind other does (act part copy)
  acts_by {part = part} {copy = copy} e p a = subst (λ does. ActsAlike behind other does (act part copy)) e (act-alike p a)

  Reads-alike : {construct : Construct} {text : List ℕ} {end : Outcome} → Reads construct text end → Reading construct text end
  Reads-alike (goes_on {end = end} e reads) part copy p a = go_ends part copy end refl reads (acts_by e p a) (Reads-alike reads)
  Reads-alike (reads_inner {end = end} e inside outside) part copy p a =
      enter_ends part copy end refl outside (acts_by e p a) (Reads-alike inside) (Reads-alike outside)
  Reads-alike (refused_inside e inside) part copy p a = tt
  Reads-alike (has_ended e) part copy p a = end_ends part copy refl (acts_by e p a)
  Reads-alike (offended e) part copy p a = tt

-- the tokens of a `$( )`, or a word among them
abbrev pub IsOpen : Construct → Type 0
IsOpen (part.Commands nest (Some left) at) = Unit {0}
IsOpen _ = ⊥

-- they go on as such, and end at a `)`
abbrev OpenDoes : List ℕ → Act → Type 0
OpenDoes text (goes next rest) = IsOpen next
OpenDoes text (enters inner outer rest) = IsOpen outer
OpenDoes text (ends rest) = lexeme text ≡ close_parenthesis rest
OpenDoes text (offends fault) = Unit {0}

module _ (text : List ℕ) where
  does_if : (test : Bool) (one other : Act) → OpenDoes text one → OpenDoes text other → OpenDoes text (if test then one else other)
  does_if true one other a b = a
  does_if false one other a b = b

  module _ (nest : Nest) (left : ℕ) (outer : Construct) (is : IsOpen outer) where
    opening-does : (inner : Construct) (rest : List ℕ) → OpenDoes text (opening nest left inner outer rest)
    opening-does inner rest = does_if (nat_lt nest.levels MAX_LEVELS) _ _ is tt

    substitution-does : (rest : List ℕ) → OpenDoes text (substitution nest left outer rest)
    substitution-does rest = does_if nest.in_braces _ _ tt (opening-does _ rest)

    parenthesis-does : (inner front : List ℕ) → OpenDoes text (parenthesis nest left outer inner front)
    parenthesis-does inner [] = substitution-does inner
    parenthesis-does inner (byte ∷ rest) = does_if (byte == OPEN) _ _ (opening-does _ rest) (substitution-does inner)

    by-does : (what : Introduced) (quoted : Bool) (all rest : List ℕ) → OpenDoes text (dollar_by what nest quoted left outer all rest)
    by-does (introduced.OutOfProfile spelling) quoted all rest = tt
    by-does introduced.Braces quoted all rest = opening-does _ rest
    by-does introduced.Parenthesis quoted all rest = parenthesis-does rest (unspliced rest)
    by-does introduced.Name quoted all rest = is
    by-does introduced.Special quoted all rest = is
    by-does introduced.Nothing quoted all rest = is

    dollar-does : (quoted : Bool) (all front : List ℕ) → OpenDoes text (dollar_at nest quoted left outer all front)
    dollar-does quoted all [] = is
    dollar-does quoted all (byte ∷ rest) = by-does (introduced_by byte) quoted all rest

  single-does : (left : ℕ) (next : Construct) (found : Option (List ℕ)) → IsOpen next → OpenDoes text (single_quotes left next found)
  single-does left next None is = tt
  single-does left next (Some rest) is = is

  module _ (nest : Nest) (left : ℕ) where
    word-does : (at : Spot) (byte : ℕ) (rest : List ℕ) → OpenDoes text (word_at nest (Some left) at byte rest)
    word-does at byte rest =
        does_if (byte == QUOTE) _ _ (single-does (length rest + 1) _ (behind_quote rest) tt) (does_if (byte == DOUBLE_QUOTE) _ _ tt
        (does_if (byte == BACKSLASH) _ _ tt (does_if (byte == BACKQUOTE) _ _ tt
        (does_if (byte == DOLLAR) _ _ (dollar-does nest (length rest + 1) _ tt false rest (unspliced rest))
        (does_if ((byte == TILDE) && is_tilde_spot at) _ _ tt tt)))))

    begin-does : (front : List ℕ) → OpenDoes text (word_begin nest left front)
    begin-does [] = tt
    begin-does (byte ∷ rest) = word-does spot.Begin byte rest

    between-does : (found : Found) → lexeme text ≡ found → OpenDoes text (between_at nest left text found)
    between-does nothing e = tt
    between-does (gap rest) e = tt
    between-does (open_parenthesis rest) e = tt
    between-does (close_parenthesis rest) e = e
    between-does (token kind rest) e = tt
    between-does word e = begin-does (unspliced text)
    between-does (offence fault) e = tt

    in_word-does : (at : Spot) (front : List ℕ) → OpenDoes text (in_word nest (Some left) at text front)
    in_word-does at [] = between-does (lexeme text) refl
    in_word-does at (byte ∷ rest) = does_if (ends_word byte) _ _ (between-does (lexeme text) refl) (word-does at byte rest)

    commands-does : (at : Spot) → OpenDoes text (in_commands nest (Some left) at text)
    commands-does spot.Between = between-does (lexeme text) refl
    commands-does spot.Begin = in_word-does spot.Begin (unspliced text)
    commands-does spot.Name = in_word-does spot.Name (unspliced text)
    commands-does spot.ValueBegin = in_word-does spot.ValueBegin (unspliced text)
    commands-does spot.Value = in_word-does spot.Value (unspliced text)
    commands-does spot.Elsewhere = in_word-does spot.Elsewhere (unspliced text)

open-does : (construct : Construct) (text : List ℕ) → IsOpen construct → OpenDoes text (act construct text)
open-does (part.Commands nest (Some left) at) text is = commands-does text nest left at
open-does (part.Commands nest None at) text is = absurd is
open-does part.Name text is = absurd is
open-does (part.DoubleQuotes nest left) text is = absurd is
open-does (part.BraceHead nest left quoted) text is = absurd is
open-does (part.Braces nest left quoted) text is = absurd is
open-does (part.Arithmetic nest left) text is = absurd is
open-does (part.Parentheses nest left) text is = absurd is

open_by : (construct : Construct) (text : List ℕ) (does : Act) → act construct text ≡ does → IsOpen construct → OpenDoes text does
open_by construct text does e is = subst (OpenDoes text) e (open-does construct text is)

-- the `)` of a token
closes : (text rest : List ℕ) → lexeme text ≡ close_parenthesis rest → unspliced text ≡ CLOSE ∷ rest
closes text rest e =
    let (left, (is, same)) = close_stands text rest e in
    sym (unspliced-twice text) ∙ is ∙ ap (λ x. CLOSE ∷ x) same

-- what holds of a text and of what is left behind its first byte, holds of the `)` of a `$( )` and what is left there
module _ (P : List ℕ → Type 0) (kept : IsKept P) where
  act_by : (construct : Construct) (text : List ℕ) (does : Act) → act construct text ≡ does → P text → Keeps P does
  act_by construct text does e h = subst (Keeps P) e (act-kept P kept construct text h)

  pub close-kept : {construct : Construct} {text after : List ℕ} → IsOpen construct → P text → Reads construct text (past after)
      → P (CLOSE ∷ after)
  close-kept is h (goes_on {construct = construct} {next = next} {text = text} {rest = rest} e reads) =
      close-kept (open_by construct text (goes next rest) e is) (act_by construct text (goes next rest) e h) reads
  close-kept is h (reads_inner {construct = construct} {inner = inner} {outer = outer} {text = text} {rest = rest} e inside outside) =
      close-kept (open_by construct text (enters inner outer rest) e is)
      (Reads-kept P kept (act_by construct text (enters inner outer rest) e h) inside) outside
  close-kept is h (has_ended {construct = construct} {text = text} {rest = rest} e) =
      subst P (closes text rest (open_by construct text (ends rest) e is)) (unspliced-kept P kept text h)

-- so it leaves less
open-shorter : {construct : Construct} {text after : List ℕ} → IsOpen construct → Reads construct text (past after) → length after < length text
open-shorter {text = text} {after = after} is reads =
    let within : length (CLOSE ∷ after) ≤ length text
    = close-kept (λ rest. length rest ≤ length text) (λ byte rest h. omega (arith, h)) is (omega arith) reads in omega (arith, within)

-- and what stands before the `)` is the same whatever stands behind it
module _ (behind other : List ℕ) where
  abbrev Copies : Construct → List ℕ → Type 0
  Copies construct text = (part : Construct) (copy : List ℕ) → PartsAlike construct part → Alike behind other text copy → Reads part copy (past other)

  go_copied : {next : Construct} {rest : List ℕ} {does : Act} (part : Construct) (copy : List ℕ) → act part copy ≡ does → IsOpen next
      → Reads next rest (past behind) → ActsAlike behind other (goes next rest) does → Copies next rest → Reads part copy (past other)
  go_copied part copy e is reads (goes_past h) more = let less = open-shorter is reads in absurd (omega (arith, h, less))
  go_copied part copy e is reads (both_go {next_copy = next} {copy = rest} p a) more = goes_on e (more next rest p a)

  enter_copied : {inner outer : Construct} {rest middle : List ℕ} {does : Act} (part : Construct) (copy : List ℕ) → act part copy ≡ does
      → IsOpen outer → Reads inner rest (past middle) → Reads outer middle (past behind)
      → ActsAlike behind other (enters inner outer rest) does → Copies outer middle → Reads part copy (past other)
  enter_copied part copy e is inside outside (both_enter {inner_copy = inner} {outer_copy = outer} {copy = rest} i o a) more =
      elim (Reads-alike behind other inside inner rest i a) [
        | inl h ↦ let less = open-shorter is outside in absurd (omega (arith, h, less))
        | inr (left, b, r) ↦ reads_inner e r (more outer left o b)
      ]

  end_copied : {rest : List ℕ} {does : Act} (part : Construct) (copy : List ℕ) → act part copy ≡ does → rest ≡ behind
      → ActsAlike behind other (ends rest) does → Reads part copy (past other)
  end_copied part copy e same (both_end a) =
      let more = longer behind other a in let as_long = ap length same in absurd (omega (arith, more, as_long))
  end_copied part copy e same (end_at_end k m) = subst (λ left. Reads part copy (past left)) m (has_ended e)
  end_copied part copy e same (ends_past h) = let as_long = ap length same in absurd (omega (arith, h, as_long))

  copied : {construct : Construct} {text after : List ℕ} → after ≡ behind → IsOpen construct → Reads construct text (past after) → Copies construct text
  copied same is (goes_on {construct = construct} {next = next} {text = text} {rest = rest} e reads) part copy p a =
      let open_next = open_by construct text (goes next rest) e is in
      go_copied part copy refl open_next (subst (λ x. Reads next rest (past x)) same reads) (acts_by behind other e p a)
      (copied same open_next reads)
  copied same is (reads_inner {construct = construct} {inner = inner} {outer = outer} {text = text} {rest = rest} {after = middle} e inside outside) part copy p a =
      let open_outer = open_by construct text (enters inner outer rest) e is in
      enter_copied part copy refl open_outer inside (subst (λ x. Reads outer middle (past x)) same outside) (acts_by behind other e p a)
      (copied same open_outer outside)
  copied same is (has_ended e) part copy p a = end_copied part copy refl same (acts_by behind other e p a)

  front-alike : (front : List ℕ) → Alike behind other (front ++ CLOSE ∷ behind) (front ++ CLOSE ∷ other)
  front-alike [] = at_end
  front-alike (byte ∷ front) = before byte (front-alike front)

-- what is left of a text is its end
abbrev IsEnd : List ℕ → List ℕ → Type 0
IsEnd text rest = (bytes : List ℕ) × (text ≡ bytes ++ rest)

end_kept : (text : List ℕ) → IsKept (IsEnd text)
end_kept text byte rest (bytes, e) = (bytes ++ byte ∷ [], e ∙ sym (append_assoc bytes (byte ∷ []) rest))

-- a `$( )` ends at a `)`, and so it does with anything else behind that, where no more levels are open
pub substitution_ends : (nest inside : Nest) (left place : ℕ) (text after other : List ℕ) → IsLower nest inside
    → Reads (part.Commands nest (Some left) spot.Between) text (past after)
    → (front : List ℕ) × (text ≡ front ++ CLOSE ∷ after) × Reads (part.Commands inside (Some place) spot.Between) (front ++ CLOSE ∷ other) (past other)
substitution_ends nest inside left place text after other lower reads =
    let (front, same) = close-kept (IsEnd text) (end_kept text) tt ([], refl) reads in (
      front,
      same,
      copied after other refl tt (subst (λ x. Reads (part.Commands nest (Some left) spot.Between) x (past after)) same reads)
          (part.Commands inside (Some place) spot.Between) (front ++ CLOSE ∷ other) (alike_commands lower one_open) (front-alike after other front),
    )
