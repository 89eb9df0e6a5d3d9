-- What holds of a text and of what is left behind its first byte, holds of what a construct leaves.
use Rattle.std.proofs.Common.{◌≡◌, ℕ, Bool, true, false, not, Option, None, Some, ◌+◌, List, [], ◌∷◌, ◌==◌, ◌&&◌, if◌then◌else◌, length, drop, refl, subst, rules}
use Rattle.sh_lex.specs.Texts.{fronts, unspliced, behind_passing, behind_run, behind_quote, behind_comment, behind_backslash}
use Rattle.sh_lex.specs.Acts.{Act, goes, enters, ends, offends, Found, nothing, gap, open_parenthesis, close_parenthesis, token, word, offence}
use Rattle.std.specs.Char.{is_ascii_digit}
use Rattle.sh_lex.specs.Bytes.{ends_word}
use Rattle.sh_lex.specs.Numbers.{number_at, after_digit}
use Rattle.sh_lex.specs.Operators.{and_at, pipe_at, semi_at, less_at, great_at, delimiter, lexeme_at, lexeme}
use Rattle.sh_lex.specs.Dollars.{opening, substitution, parenthesis, introduced_by, dollar_by, dollar_at, after_dollar, name_at}
use Rattle.sh_lex.specs.DoubleQuotes.{double_quotes_at}
use Rattle.sh_lex.specs.Heads.{Head, whole, with_word, no_form, trims, closing_brace, operator_at, colon_at, suffix_at, prefix_at, form_at, placed, parameter_at, measured_at, hash_at, formed_at, brace_head_at, brace_head}
use Rattle.sh_lex.specs.Braces.{single_quotes, quote_in_braces, backslash_in_braces, braces_at, braces_word_at, head_at}
use Rattle.sh_lex.specs.Arithmetic.{expression_at, closing_at, arithmetic_at, parentheses_at}
use Rattle.sh_lex.specs.Commands.{word_at, word_begin, between_at, word_end, in_word, in_commands}
use Rattle.sh_lex.specs.Reads.{act, Outcome, past, refused, Reads, goes_on, reads_inner, refused_inside, has_ended, offended}
use Rattle.ps_lines.specs.Bytes.{is_name_byte}
use Rattle.sh_tree.specs.declared.words.Param.{Param}
use Rattle.sh_lex.specs.declared.parts.Nest.{Nest}
use Rattle.sh_lex.specs.declared.parts.Construct.{Construct}
use Rattle.sh_lex.specs.declared.parts.Spot.{Spot}
use Rattle.sh_lex.specs.declared.parts.Construct.TheVariants as part
use Rattle.sh_lex.specs.declared.parts.Spot.TheVariants as spot
use Rattle.sh_lex.specs.declared.dollars.Introduced.{Introduced}
use Rattle.sh_lex.specs.declared.dollars.Introduced.TheVariants as introduced
use Rattle.sh_lex.specs.declared.bytes.TheConstants.{BACKSLASH, NEWLINE}

abbrev pub Keeps : (List ℕ → Type 0) → Act → Type 0
Keeps P (goes next rest) = P rest
Keeps P (enters inner outer rest) = P rest
Keeps P (ends rest) = P rest
Keeps P (offends fault) = Unit {0}

-- it holds of what is left behind a byte
abbrev pub IsKept : (List ℕ → Type 0) → Type 0
IsKept P = (byte : ℕ) (rest : List ℕ) → P (byte ∷ rest) → P rest

pub Keeps-if : (P : List ℕ → Type 0) (test : Bool) (left right : Act) → Keeps P left → Keeps P right
    → Keeps P (if test then left else right)
Keeps-if P true left right l r = l
Keeps-if P false left right l r = r

module _ (P : List ℕ → Type 0) (kept : IsKept P) where
  unspliced_pair : (first second : ℕ) (text : List ℕ) (test : Bool) → ((first == BACKSLASH) && (second == NEWLINE)) ≡ test
      → (P text → P (unspliced text)) → P (first ∷ second ∷ text) → P (unspliced (first ∷ second ∷ text))
  unfolding unspliced fronts
  unspliced_pair first second text true e more h = simp e (more (kept second text (kept first (second ∷ text) h)))
  unspliced_pair first second text false e more h = simp e h

  pub unspliced-kept : (text : List ℕ) → P text → P (unspliced text)
  unfolding unspliced fronts
  unspliced-kept [] h = h
  unspliced-kept (first ∷ []) h = h
  unspliced-kept (first ∷ second ∷ text) h =
      unspliced_pair first second text ((first == BACKSLASH) && (second == NEWLINE)) refl (unspliced-kept text) h

  choice : (test : Bool) (left right : List ℕ) → P left → P right → P (if test then left else right)
  choice true left right l r = l
  choice false left right l r = r

  passing_pair : (passes : ℕ → Bool) (test : Bool) (first : ℕ) (end behind : List ℕ) (one two : List (ℕ × List ℕ))
      → P (behind_passing passes end one) → P (behind_passing passes behind two) → P end
      → P (behind_passing passes end (if test then one else (first, behind) ∷ two))
  passing_pair passes true first end behind one two h k m = h
  passing_pair passes false first end behind one two h k m = choice (passes first) (behind_passing passes behind two) end k m

  behind_passing-kept : (passes : ℕ → Bool) (end text : List ℕ) → P end → P text → P (behind_passing passes end (fronts text))
  unfolding fronts
  behind_passing-kept passes end [] h k = h
  behind_passing-kept passes end (first ∷ []) h k = passing_pair passes false first end [] [] [] h (kept first [] k) h
  behind_passing-kept passes end (first ∷ second ∷ text) h k =
      passing_pair passes ((first == BACKSLASH) && (second == NEWLINE)) first end (second ∷ text) (fronts text) (fronts (second ∷ text))
      (behind_passing-kept passes end text h (kept second text (kept first (second ∷ text) k)))
      (behind_passing-kept passes (second ∷ text) (second ∷ text) (kept first (second ∷ text) k) (kept first (second ∷ text) k)) h

  pub behind_run-kept : (passes : ℕ → Bool) (text : List ℕ) → P text → P (behind_run passes text)
  unfolding behind_run
  behind_run-kept passes text h = behind_passing-kept passes text text h h

  pub behind_comment-kept : (text : List ℕ) → P text → P (behind_comment text)
  behind_comment-kept [] h = h
  behind_comment-kept (byte ∷ rest) h =
      choice (byte == NEWLINE) (byte ∷ rest) (behind_comment rest) h (behind_comment-kept rest (kept byte rest h))

  pub behind_backslash-kept : (braces : Bool) (text : List ℕ) → P text → P (behind_backslash braces text)
  behind_backslash-kept braces [] h = h
  behind_backslash-kept braces (byte ∷ rest) h = choice _ rest (byte ∷ rest) (kept byte rest h) h

  pub drop-kept : (text : List ℕ) → P text → P (drop 1 text)
  drop-kept [] h = h
  drop-kept (byte ∷ rest) h = kept byte rest h

  quote_pair : (test : Bool) (rest after : List ℕ) (more : Option (List ℕ)) → P rest → (more ≡ Some after → P after)
      → (if test then Some rest else more) ≡ Some after → P after
  quote_pair true rest after more h m e = let same : rest ≡ after = cc in subst P same h
  quote_pair false rest after more h m e = m e

  pub behind_quote-kept : (text after : List ℕ) → P text → behind_quote text ≡ Some after → P after
  behind_quote-kept [] after h e = cc
  behind_quote-kept (byte ∷ rest) after h e =
      quote_pair (byte == 39) rest after (behind_quote rest) (kept byte rest h) (behind_quote-kept rest after (kept byte rest h)) e

-- what begins at a text
abbrev pub KeepsBehind : (List ℕ → Type 0) → Found → Type 0
KeepsBehind P nothing = Unit {0}
KeepsBehind P (gap rest) = P rest
KeepsBehind P (open_parenthesis rest) = P rest
KeepsBehind P (close_parenthesis rest) = P rest
KeepsBehind P (token kind rest) = P rest
KeepsBehind P word = Unit {0}
KeepsBehind P (offence fault) = Unit {0}

KeepsBehind-if : (P : List ℕ → Type 0) (test : Bool) (left right : Found) → KeepsBehind P left → KeepsBehind P right
    → KeepsBehind P (if test then left else right)
KeepsBehind-if P true left right l r = l
KeepsBehind-if P false left right l r = r

-- the beginning of a `${ }`
abbrev KeepsHead : (List ℕ → Type 0) → Head → Type 0
KeepsHead P (whole what measured rest) = P rest
KeepsHead P (with_word what by rest) = P rest
KeepsHead P no_form = Unit {0}

KeepsHead-if : (P : List ℕ → Type 0) (test : Bool) (left right : Head) → KeepsHead P left → KeepsHead P right
    → KeepsHead P (if test then left else right)
KeepsHead-if P true left right l r = l
KeepsHead-if P false left right l r = r

abbrev KeepsFound : (List ℕ → Type 0) → Option (Param × Bool × List ℕ) → Type 0
KeepsFound P None = Unit {0}
KeepsFound P (Some (what, assigns, rest)) = P rest

KeepsFound-if : (P : List ℕ → Type 0) (test : Bool) (left right : Option (Param × Bool × List ℕ)) → KeepsFound P left
    → KeepsFound P right → KeepsFound P (if test then left else right)
KeepsFound-if P true left right l r = l
KeepsFound-if P false left right l r = r

module _ (P : List ℕ → Type 0) (kept : IsKept P) where
  closing_brace-kept : (what : Param) (measured : Bool) (text : List ℕ) → P text → KeepsHead P (closing_brace what measured text)
  closing_brace-kept what measured [] h = tt
  closing_brace-kept what measured (byte ∷ rest) h = let inside : P rest = kept byte rest h in search (KeepsHead-if, inside, rules)

  operator-kept : (assigns colon : Bool) (what : Param) (byte : ℕ) (rest : List ℕ) → P rest
      → KeepsHead P (operator_at assigns colon what byte rest)
  operator-kept assigns colon what byte rest h = search (KeepsHead-if, h, rules)

  colon-kept : (assigns : Bool) (what : Param) (text : List ℕ) → P text → KeepsHead P (colon_at assigns what text)
  colon-kept assigns what [] h = tt
  colon-kept assigns what (byte ∷ rest) h = operator-kept assigns true what byte rest (kept byte rest h)

  suffix-kept : (what : Param) (text front : List ℕ) → P text → P front → KeepsHead P (suffix_at what text front)
  suffix-kept what text [] h k = h
  suffix-kept what text (byte ∷ rest) h k = let inside : P rest = kept byte rest k in search (KeepsHead-if, inside, h, rules)

  prefix-kept : (what : Param) (text front : List ℕ) → P text → P front → KeepsHead P (prefix_at what text front)
  prefix-kept what text [] h k = h
  prefix-kept what text (byte ∷ rest) h k = let inside : P rest = kept byte rest k in search (KeepsHead-if, inside, h, rules)

  form-kept : (assigns : Bool) (what : Param) (text : List ℕ) → P text → KeepsHead P (form_at assigns what text)
  form-kept assigns what [] h = tt
  form-kept assigns what (byte ∷ rest) h =
      let inside : P rest = kept byte rest h in
      let front : P (unspliced rest) = unspliced-kept P kept rest inside in
      let colon : KeepsHead P (colon_at assigns what (unspliced rest)) = colon-kept assigns what (unspliced rest) front in
      let suffix : KeepsHead P (suffix_at what rest (unspliced rest)) = suffix-kept what rest (unspliced rest) inside front in
      let prefix : KeepsHead P (prefix_at what rest (unspliced rest)) = prefix-kept what rest (unspliced rest) inside front in
      let other : KeepsHead P (operator_at assigns false what byte rest) = operator-kept assigns false what byte rest inside in
      search (KeepsHead-if, inside, colon, suffix, prefix, other, rules)

  placed-kept : (value : Option ℕ) (rest : List ℕ) → P rest → KeepsFound P (placed value rest)
  placed-kept None rest h = tt
  placed-kept (Some number) rest h = h

  parameter-kept : (byte : ℕ) (rest : List ℕ) → P rest → KeepsFound P (parameter_at byte rest)
  parameter-kept byte rest h =
      let name : P (behind_run is_name_byte rest) = behind_run-kept P kept is_name_byte rest h in
      let digits : P (behind_run is_ascii_digit rest) = behind_run-kept P kept is_ascii_digit rest h in
      search (KeepsFound-if, placed-kept, name, digits, h, rules)

  measured-kept : (found : Option (Param × Bool × List ℕ)) → KeepsFound P found → KeepsHead P (measured_at found)
  measured-kept None h = tt
  measured-kept (Some (what, assigns, rest)) h = closing_brace-kept what true (unspliced rest) (unspliced-kept P kept rest h)

  formed-kept : (found : Option (Param × Bool × List ℕ)) → KeepsFound P found → KeepsHead P (formed_at found)
  formed-kept None h = tt
  formed-kept (Some (what, assigns, rest)) h = form-kept assigns what (unspliced rest) (unspliced-kept P kept rest h)

  hash-kept : (text : List ℕ) → P text → KeepsHead P (hash_at text)
  hash-kept [] h = tt
  hash-kept (byte ∷ rest) h =
      let inside : P rest = kept byte rest h in
      let measured : KeepsHead P (measured_at (parameter_at byte rest)) = measured-kept (parameter_at byte rest) (parameter-kept byte rest inside) in
      search (KeepsHead-if, inside, measured, rules)

  brace_head_at-kept : (text : List ℕ) → P text → KeepsHead P (brace_head_at text)
  brace_head_at-kept [] h = tt
  brace_head_at-kept (byte ∷ rest) h =
      let inside : P rest = kept byte rest h in
      let front : P (unspliced rest) = unspliced-kept P kept rest inside in
      let hash : KeepsHead P (hash_at (unspliced rest)) = hash-kept (unspliced rest) front in
      let formed : KeepsHead P (formed_at (parameter_at byte rest)) = formed-kept (parameter_at byte rest) (parameter-kept byte rest inside) in
      search (KeepsHead-if, closing_brace-kept, front, hash, formed, rules)

  brace_head-kept : (text : List ℕ) → P text → KeepsHead P (brace_head text)
  brace_head-kept text h = brace_head_at-kept (unspliced text) (unspliced-kept P kept text h)

  -- the constructs
  module _ (nest : Nest) (left : ℕ) where
    opening-kept : (inner outer : Construct) (rest : List ℕ) → P rest → Keeps P (opening nest left inner outer rest)
    opening-kept inner outer rest h = search (Keeps-if, h, rules)

    substitution-kept : (outer : Construct) (rest : List ℕ) → P rest → Keeps P (substitution nest left outer rest)
    substitution-kept outer rest h = search (Keeps-if, h, rules)

    parenthesis-kept : (outer : Construct) (inner text : List ℕ) → P inner → P text → Keeps P (parenthesis nest left outer inner text)
    parenthesis-kept outer inner [] h k = substitution-kept outer inner h
    parenthesis-kept outer inner (byte ∷ rest) h k =
        let inside : P rest = kept byte rest k in
        let sub : Keeps P (substitution nest left outer inner) = substitution-kept outer inner h in
        search (Keeps-if, sub, opening-kept, inside, rules)

    dollar_by-kept : (what : Introduced) (quoted : Bool) (outer : Construct) (text rest : List ℕ) → P text → P rest
        → Keeps P (dollar_by what nest quoted left outer text rest)
    dollar_by-kept (introduced.OutOfProfile spelling) quoted outer text rest h k = tt
    dollar_by-kept introduced.Braces quoted outer text rest h k = opening-kept _ outer rest k
    dollar_by-kept introduced.Parenthesis quoted outer text rest h k =
        parenthesis-kept outer rest (unspliced rest) k (unspliced-kept P kept rest k)
    dollar_by-kept introduced.Name quoted outer text rest h k = k
    dollar_by-kept introduced.Special quoted outer text rest h k = k
    dollar_by-kept introduced.Nothing quoted outer text rest h k = h

    dollar_at-kept : (quoted : Bool) (outer : Construct) (text front : List ℕ) → P text → P front
        → Keeps P (dollar_at nest quoted left outer text front)
    dollar_at-kept quoted outer text [] h k = h
    dollar_at-kept quoted outer text (byte ∷ rest) h k = dollar_by-kept (introduced_by byte) quoted outer text rest h (kept byte rest k)

    pub after_dollar-kept : (quoted : Bool) (outer : Construct) (text : List ℕ) → P text → Keeps P (after_dollar nest quoted left outer text)
    after_dollar-kept quoted outer text h = dollar_at-kept quoted outer text (unspliced text) h (unspliced-kept P kept text h)

  double_quotes-kept : (nest : Nest) (left : ℕ) (text : List ℕ) → P text → Keeps P (double_quotes_at nest left text)
  double_quotes-kept nest left [] h = tt
  double_quotes-kept nest left (byte ∷ rest) h =
      let inside : P rest = kept byte rest h in
      let behind : P (behind_backslash false rest) = behind_backslash-kept P kept false rest inside in
      search (Keeps-if, after_dollar-kept, inside, behind, rules) depth 12

  name-kept : (text front : List ℕ) → P text → P front → Keeps P (name_at text front)
  name-kept text [] h k = h
  name-kept text (byte ∷ rest) h k = let inside : P rest = kept byte rest k in search (Keeps-if, inside, h, rules)

  single_found : (left : ℕ) (next : Construct) (text : List ℕ) (found : Option (List ℕ)) → behind_quote text ≡ found → P text
      → Keeps P (single_quotes left next found)
  single_found left next text None e h = tt
  single_found left next text (Some after) e h = behind_quote-kept P kept text after h e

  single_quotes-kept : (left : ℕ) (next : Construct) (text : List ℕ) → P text → Keeps P (single_quotes left next (behind_quote text))
  single_quotes-kept left next text h = single_found left next text (behind_quote text) refl h

  module _ (nest : Nest) (left : ℕ) where
    quote-kept : (quoted : Bool) (rest : List ℕ) → P rest → Keeps P (quote_in_braces nest left quoted rest)
    quote-kept true rest h = h
    quote-kept false rest h = single_quotes-kept (length rest + 1) (part.Braces nest left false) rest h

    backslash-kept : (quoted : Bool) (rest : List ℕ) → P rest → Keeps P (backslash_in_braces nest left quoted rest)
    backslash-kept true rest h = behind_backslash-kept P kept true rest h
    backslash-kept false rest h = drop-kept P kept rest h

    braces-kept : (quoted : Bool) (text : List ℕ) → P text → Keeps P (braces_at nest left quoted text)
    braces-kept quoted [] h = tt
    braces-kept quoted (byte ∷ rest) h =
        let inside : P rest = kept byte rest h in
        search (Keeps-if, quote-kept, backslash-kept, after_dollar-kept, inside, rules) depth 12

    braces_word-kept : (quoted : Bool) (text : List ℕ) → P text → Keeps P (braces_word_at nest left quoted text)
    braces_word-kept quoted [] h = tt
    braces_word-kept quoted (byte ∷ rest) h = Keeps-if P ((byte == 126) && not quoted) _ _ tt (braces-kept quoted (byte ∷ rest) h)

    head-kept : (quoted : Bool) (text : List ℕ) (found : Head) → P text → KeepsHead P found → Keeps P (head_at nest left quoted text found)
    head-kept quoted text (whole what measured rest) h k = k
    head-kept quoted text (with_word what by rest) h k =
        braces_word-kept (quoted && not (trims by)) (unspliced rest) (unspliced-kept P kept rest k)
    head-kept quoted text no_form h k = braces-kept quoted (unspliced text) (unspliced-kept P kept text h)

    expression-kept : (self : Construct) (byte : ℕ) (rest : List ℕ) → P rest → Keeps P (expression_at nest left self byte rest)
    expression-kept self byte rest h =
        let behind : P (behind_backslash false rest) = behind_backslash-kept P kept false rest h in
        search (Keeps-if, after_dollar-kept, behind, h, rules) depth 12

    closing-kept : (text front : List ℕ) → P text → P front → Keeps P (closing_at nest left text front)
    closing-kept text [] h k = h
    closing-kept text (byte ∷ rest) h k = let inside : P rest = kept byte rest k in search (Keeps-if, inside, h, rules)

    arithmetic-kept : (text : List ℕ) → P text → Keeps P (arithmetic_at nest left text)
    arithmetic-kept [] h = tt
    arithmetic-kept (byte ∷ rest) h =
        let inside : P rest = kept byte rest h in
        Keeps-if P (byte == 41) _ _ (closing-kept rest (unspliced rest) inside (unspliced-kept P kept rest inside))
        (expression-kept (part.Arithmetic nest left) byte rest inside)

    parentheses-kept : (text : List ℕ) → P text → Keeps P (parentheses_at nest left text)
    parentheses-kept [] h = tt
    parentheses-kept (byte ∷ rest) h =
        let inside : P rest = kept byte rest h in
        Keeps-if P (byte == 41) _ _ inside (expression-kept (part.Parentheses nest left) byte rest inside)

  -- what begins where a token may begin
  and-kept : (left : ℕ) (front : List ℕ) → P front → KeepsBehind P (and_at left front)
  and-kept left [] h = tt
  and-kept left (byte ∷ rest) h = let inside : P rest = kept byte rest h in search (KeepsBehind-if, inside, rules)

  pipe-kept : (text front : List ℕ) → P text → P front → KeepsBehind P (pipe_at text front)
  pipe-kept text [] h k = h
  pipe-kept text (byte ∷ rest) h k = let inside : P rest = kept byte rest k in search (KeepsBehind-if, inside, h, rules)

  semi-kept : (left : ℕ) (text front : List ℕ) → P text → KeepsBehind P (semi_at left text front)
  semi-kept left text [] h = h
  semi-kept left text (byte ∷ rest) h = search (KeepsBehind-if, h, rules)

  less-kept : (left : ℕ) (text front : List ℕ) → P text → KeepsBehind P (less_at left text front)
  less-kept left text [] h = h
  less-kept left text (byte ∷ rest) h = search (KeepsBehind-if, h, rules)

  great-kept : (left : ℕ) (text front : List ℕ) → P text → P front → KeepsBehind P (great_at left text front)
  great-kept left text [] h k = h
  great-kept left text (byte ∷ rest) h k = let inside : P rest = kept byte rest k in search (KeepsBehind-if, inside, h, rules)

  delimiter-kept : (byte : ℕ) (rest : List ℕ) → P rest → KeepsBehind P (delimiter byte rest)
  delimiter-kept byte rest h =
      let front : P (unspliced rest) = unspliced-kept P kept rest h in
      let and : KeepsBehind P (and_at (length rest + 1) (unspliced rest)) = and-kept (length rest + 1) (unspliced rest) front in
      let pipe : KeepsBehind P (pipe_at rest (unspliced rest)) = pipe-kept rest (unspliced rest) h front in
      let semi : KeepsBehind P (semi_at (length rest + 1) rest (unspliced rest)) = semi-kept (length rest + 1) rest (unspliced rest) h in
      let less : KeepsBehind P (less_at (length rest + 1) rest (unspliced rest)) = less-kept (length rest + 1) rest (unspliced rest) h in
      let great : KeepsBehind P (great_at (length rest + 1) rest (unspliced rest)) = great-kept (length rest + 1) rest (unspliced rest) h front in
      search (KeepsBehind-if, h, and, pipe, semi, less, great, rules) depth 12

  number-kept : (digit left : ℕ) (single : Bool) (end front : List ℕ) → P end → KeepsBehind P (number_at digit left single end front)
  number-kept digit left single end [] h = tt
  number-kept digit left single end (byte ∷ rest) h = search (KeepsBehind-if, h, rules)

  digit-kept : (digit : ℕ) (rest : List ℕ) → P rest → KeepsBehind P (after_digit digit rest)
  digit-kept digit rest h =
      number-kept digit (length rest + 1) (length (behind_run is_ascii_digit rest) == length rest) (behind_run is_ascii_digit rest)
      (unspliced (behind_run is_ascii_digit rest)) (behind_run-kept P kept is_ascii_digit rest h)

  lexeme_at-kept : (front : List ℕ) → P front → KeepsBehind P (lexeme_at front)
  lexeme_at-kept [] h = tt
  lexeme_at-kept (byte ∷ rest) h =
      let inside : P rest = kept byte rest h in
      let comment : P (behind_comment rest) = behind_comment-kept P kept rest inside in
      let delimited : KeepsBehind P (delimiter byte rest) = delimiter-kept byte rest inside in
      let digits : KeepsBehind P (after_digit byte rest) = digit-kept byte rest inside in
      search (KeepsBehind-if, comment, delimited, digits, rules)

  pub lexeme-kept : (text : List ℕ) → P text → KeepsBehind P (lexeme text)
  lexeme-kept text h = lexeme_at-kept (unspliced text) (unspliced-kept P kept text h)

  module _ (nest : Nest) where
    word-kept : (opened : Option ℕ) (at : Spot) (byte : ℕ) (rest : List ℕ) → P rest → Keeps P (word_at nest opened at byte rest)
    word-kept opened at byte rest h =
        let behind : P (drop 1 rest) = drop-kept P kept rest h in
        search (Keeps-if, single_quotes-kept, after_dollar-kept, behind, h, rules) depth 12

    word_begin-kept : (opened : ℕ) (front : List ℕ) → P front → Keeps P (word_begin nest opened front)
    word_begin-kept opened [] h = tt
    word_begin-kept opened (byte ∷ rest) h = word-kept (Some opened) spot.Begin byte rest (kept byte rest h)

    between-kept : (opened : ℕ) (text : List ℕ) (found : Found) → P text → KeepsBehind P found → Keeps P (between_at nest opened text found)
    between-kept opened text nothing h k = tt
    between-kept opened text (gap rest) h k = k
    between-kept opened text (open_parenthesis rest) h k = k
    between-kept opened text (close_parenthesis rest) h k = k
    between-kept opened text (token kind rest) h k = k
    between-kept opened text word h k = word_begin-kept opened (unspliced text) (unspliced-kept P kept text h)
    between-kept opened text (offence fault) h k = tt

    word_end-kept : (opened : Option ℕ) (text : List ℕ) → P text → Keeps P (word_end nest opened text)
    word_end-kept None text h = h
    word_end-kept (Some opened) text h = between-kept opened text (lexeme text) h (lexeme-kept text h)

    in_word-kept : (opened : Option ℕ) (at : Spot) (text front : List ℕ) → P text → P front → Keeps P (in_word nest opened at text front)
    in_word-kept opened at text [] h k = word_end-kept opened text h
    in_word-kept opened at text (byte ∷ rest) h k =
        Keeps-if P (ends_word byte) _ _ (word_end-kept opened text h) (word-kept opened at byte rest (kept byte rest k))

    commands-kept : (opened : Option ℕ) (at : Spot) (text : List ℕ) → P text → Keeps P (in_commands nest opened at text)
    commands-kept opened spot.Between text h = word_end-kept opened text h
    commands-kept opened spot.Begin text h = in_word-kept opened spot.Begin text (unspliced text) h (unspliced-kept P kept text h)
    commands-kept opened spot.Name text h = in_word-kept opened spot.Name text (unspliced text) h (unspliced-kept P kept text h)
    commands-kept opened spot.ValueBegin text h = in_word-kept opened spot.ValueBegin text (unspliced text) h (unspliced-kept P kept text h)
    commands-kept opened spot.Value text h = in_word-kept opened spot.Value text (unspliced text) h (unspliced-kept P kept text h)
    commands-kept opened spot.Elsewhere text h = in_word-kept opened spot.Elsewhere text (unspliced text) h (unspliced-kept P kept text h)

  pub act-kept : (construct : Construct) (text : List ℕ) → P text → Keeps P (act construct text)
  act-kept (part.Commands nest opened at) text h = commands-kept nest opened at text h
  act-kept part.Name text h = name-kept text (unspliced text) h (unspliced-kept P kept text h)
  act-kept (part.DoubleQuotes nest left) text h = double_quotes-kept nest left (unspliced text) (unspliced-kept P kept text h)
  act-kept (part.BraceHead nest left quoted) text h = head-kept nest left quoted text (brace_head text) h (brace_head-kept text h)
  act-kept (part.Braces nest left quoted) text h = braces-kept nest left quoted (unspliced text) (unspliced-kept P kept text h)
  act-kept (part.Arithmetic nest left) text h = arithmetic-kept nest left (unspliced text) (unspliced-kept P kept text h)
  act-kept (part.Parentheses nest left) text h = parentheses-kept nest left (unspliced text) (unspliced-kept P kept text h)

  kept_by : (construct : Construct) (text : List ℕ) (does : Act) → act construct text ≡ does → P text → Keeps P does
  kept_by construct text does e h = subst (Keeps P) e (act-kept construct text h)

  abbrev pub KeepsEnd : Outcome → Type 0
  KeepsEnd (past rest) = P rest
  KeepsEnd (refused fault) = Unit {0}

  -- a construct that is read
  pub Reads-kept : {construct : Construct} {text : List ℕ} {end : Outcome} → P text → Reads construct text end → KeepsEnd end
  Reads-kept h (goes_on {construct = construct} {next = next} {text = text} {rest = rest} e reads) =
      Reads-kept (kept_by construct text (goes next rest) e h) reads
  Reads-kept h (reads_inner {construct = construct} {inner = inner} {outer = outer} {text = text} {rest = rest} e inside outside) =
      Reads-kept (Reads-kept (kept_by construct text (enters inner outer rest) e h) inside) outside
  Reads-kept h (refused_inside e inside) = tt
  Reads-kept h (has_ended {construct = construct} {text = text} {rest = rest} e) = kept_by construct text (ends rest) e h
  Reads-kept h (offended e) = tt
