-- A word's bytes are cut out of a text. Up to the cut the scan of the text and that of the bytes alone find the same: the bytes without
-- backslash-newlines, names, digits, and the beginnings of `${ }`. Where the scan of the text looks past the cut, it has left less than what
-- stands there.
use Rattle.std.proofs.Common.{◌≡◌, ℕ, Bool, true, false, Option, None, Some, ◌+◌, ◌≤◌, ◌<◌, List, [], ◌∷◌, ◌++◌, ◌==◌, ◌&&◌, ◌||◌, ◌⊎◌, if◌then◌else◌, length, drop, refl, sym, ◌∙◌, ap, subst, inl, inr, arith}
use Rattle.std.proofs.lemmas.Bool.{eqb-true, and_parts}
use Rattle.ps_lines.specs.Bytes.{is_name_start, is_name_byte}
use Rattle.std.specs.Char.{is_ascii_digit}
use Rattle.sh_lex.specs.Bytes.{is_quoted_escape}
use Rattle.sh_lex.specs.Texts.{fronts, from_first, unspliced, passing, run, behind_passing, behind_run, behind_backslash}
use Rattle.sh_lex.specs.Heads.{Head, whole, with_word, no_form, place_value, closing_brace, operator_at, colon_at, suffix_at, prefix_at, form_at, placed, parameter_at, measured_at, hash_at, formed_at, brace_head_at, brace_head}
use Rattle.sh_tree.specs.declared.words.Param.{Param}
use Rattle.sh_lex.specs.declared.heads.Operator.{Operator}
use Rattle.sh_lex.specs.declared.bytes.TheConstants.{BACKSLASH, NEWLINE, CLOSE_BRACE, AT, STAR, HASH, QUESTION, COLON, PERCENT, DASH, EQUALS, PLUS}

-- a text, of which the part from the cut on is `tail`, and its bytes before the cut
pub data Cut (tail : List ℕ) : List ℕ → List ℕ → Type 0 where
  at_cut : Cut tail tail []
  before : (byte : ℕ) {text copy : List ℕ} → Cut tail text copy → Cut tail (byte ∷ text) (byte ∷ copy)

-- less is left than stands behind the cut
abbrev pub Past : List ℕ → List ℕ → Type 0
Past tail text = length text < length tail

abbrev pub Or : List ℕ → List ℕ → List ℕ → Type 0
Or tail text copy = Past tail text ⊎ Cut tail text copy

-- all of these bytes stand behind the cut
abbrev pub AllPast : List ℕ → List (ℕ × List ℕ) → Type 0
AllPast tail [] = Unit {0}
AllPast tail (first ∷ rest) = Past tail first.1 × AllPast tail rest

-- the bytes of the text without backslash-newlines, and those of the copy: a backslash may be the last one before the cut
pub data FrontsCut (tail : List ℕ) : List (ℕ × List ℕ) → List (ℕ × List ℕ) → Type 0 where
  none_left : {all : List (ℕ × List ℕ)} → AllPast tail all → FrontsCut tail all []
  backslash_left : {all : List (ℕ × List ℕ)} → AllPast tail all → FrontsCut tail all ((BACKSLASH, []) ∷ [])
  fronts_before : (byte : ℕ) {text copy : List ℕ} → Cut tail text copy → FrontsCut tail (fronts text) (fronts copy)
      → FrontsCut tail ((byte, text) ∷ fronts text) ((byte, copy) ∷ fronts copy)

abbrev pub FirstPast : List ℕ → List ℕ → Type 0
FirstPast tail [] = Unit {0}
FirstPast tail (byte ∷ rest) = Past tail rest

-- the text and the copy from their next byte on
pub data FirstCut (tail : List ℕ) : List ℕ → List ℕ → Type 0 where
  none_next : {front : List ℕ} → FirstPast tail front → FirstCut tail front []
  backslash_next : {front : List ℕ} → FirstPast tail front → FirstCut tail front (BACKSLASH ∷ [])
  byte_next : (byte : ℕ) {text copy : List ℕ} → Cut tail text copy → FirstCut tail (byte ∷ text) (byte ∷ copy)

past_if : (tail : List ℕ) (test : Bool) (one two : List (ℕ × List ℕ)) → AllPast tail one → AllPast tail two
    → AllPast tail (if test then one else two)
past_if tail true one two a b = a
past_if tail false one two a b = b

past_fronts : (tail text : List ℕ) → length text ≤ length tail → AllPast tail (fronts text)
unfolding fronts
past_fronts tail [] h = tt
past_fronts tail (first ∷ []) h = (omega (arith, h), tt)
past_fronts tail (first ∷ second ∷ rest) h =
    past_if tail ((first == BACKSLASH) && (second == NEWLINE)) (fronts rest) ((first, second ∷ rest) ∷ fronts (second ∷ rest))
    (past_fronts tail rest (omega (arith, h))) (omega (arith, h), past_fronts tail (second ∷ rest) (omega (arith, h)))

pair_fronts : (first second : ℕ) (rest : List ℕ) → fronts (first ∷ second ∷ rest)
    ≡ (if (first == BACKSLASH) && (second == NEWLINE) then fronts rest else (first, second ∷ rest) ∷ fronts (second ∷ rest))
unfolding fronts
pair_fronts first second rest = refl

one_front : (first : ℕ) → fronts (first ∷ []) ≡ (first, []) ∷ fronts []
unfolding fronts
one_front first = refl

no_fronts : fronts [] ≡ []
unfolding fronts
no_fronts = refl

is_spliced : (first second : ℕ) → ((first == BACKSLASH) && (second == NEWLINE)) ≡ true → first ≡ BACKSLASH
is_spliced first second e = eqb-true first BACKSLASH (and_parts (first == BACKSLASH) (second == NEWLINE) e).0

-- one byte before the cut
one_left : (tail : List ℕ) (first : ℕ) → FrontsCut tail (fronts (first ∷ tail)) ((first, []) ∷ fronts [])
one_left [] first = rw (one_front first) (fronts_before first at_cut (rw no_fronts (none_left tt)))
one_left (second ∷ rest) first = rw (pair_fronts first second rest) (by_test ((first == BACKSLASH) && (second == NEWLINE)) refl)
  where
    by_test : (test : Bool) → ((first == BACKSLASH) && (second == NEWLINE)) ≡ test
        → FrontsCut (second ∷ rest) (if test then fronts rest else (first, second ∷ rest) ∷ fronts (second ∷ rest)) ((first, []) ∷ fronts [])
    by_test true e =
        subst (λ byte. FrontsCut (second ∷ rest) (fronts rest) ((byte, []) ∷ fronts [])) (sym (is_spliced first second e))
        (rw no_fronts (backslash_left (past_fronts (second ∷ rest) rest (omega arith))))
    by_test false e =
        fronts_before first at_cut (rw no_fronts (none_left (past_fronts (second ∷ rest) (second ∷ rest) (omega arith))))

module _ (tail : List ℕ) where
  fronts_if : (test : Bool) {one two more rest : List (ℕ × List ℕ)} → FrontsCut tail one two → FrontsCut tail more rest
      → FrontsCut tail (if test then one else more) (if test then two else rest)
  fronts_if true a b = a
  fronts_if false a b = b

  pub fronts-cut : {text copy : List ℕ} → Cut tail text copy → FrontsCut tail (fronts text) (fronts copy)
  fronts-cut at_cut = rw no_fronts (none_left (past_fronts tail tail (omega arith)))
  fronts-cut (before first at_cut) = rw (one_front first) (one_left tail first)
  fronts-cut (before first (before second {text = text} {copy = copy} a)) =
      rw (pair_fronts first second text, pair_fronts first second copy)
      (fronts_if ((first == BACKSLASH) && (second == NEWLINE)) (fronts-cut a)
      (fronts_before first (before second a) (fronts-cut (before second a))))

  first_past : (all : List (ℕ × List ℕ)) → AllPast tail all → FirstPast tail (from_first all)
  first_past [] p = tt
  first_past (first ∷ rest) p = p.0

  first-cut : {all more : List (ℕ × List ℕ)} → FrontsCut tail all more → FirstCut tail (from_first all) (from_first more)
  first-cut (none_left {all = all} p) = none_next (first_past all p)
  first-cut (backslash_left {all = all} p) = backslash_next (first_past all p)
  first-cut (fronts_before byte a more) = byte_next byte a

  pub unspliced-cut : {text copy : List ℕ} → Cut tail text copy → FirstCut tail (unspliced text) (unspliced copy)
  unfolding unspliced
  unspliced-cut a = first-cut (fronts-cut a)

  -- nothing that is looked for is left in the copy
  abbrev pub IsLast : List ℕ → Type 0
  IsLast front = (front ≡ []) ⊎ (front ≡ BACKSLASH ∷ [])

  -- a run of bytes: what is left behind it of the text and of the copy, and the bytes themselves
  pub data RunCut : List ℕ → List ℕ → List ℕ → List ℕ → Type 0 where
    run_cut : {behind copy bytes : List ℕ} → Cut tail behind copy → RunCut behind copy bytes bytes
    run_past : {behind copy bytes others : List ℕ} → Past tail behind → IsLast (unspliced copy) → RunCut behind copy bytes others

  module _ (passes : ℕ → Bool) (stops : passes BACKSLASH ≡ false) where
    past_choice : (test : Bool) (one other : List ℕ) → Past tail one → Past tail other → Past tail (if test then one else other)
    past_choice true one other a b = a
    past_choice false one other a b = b

    behind_past : (all : List (ℕ × List ℕ)) (end : List ℕ) → Past tail end → AllPast tail all → Past tail (behind_passing passes end all)
    behind_past [] end h p = h
    behind_past (first ∷ rest) end h p =
        past_choice (passes first.0) (behind_passing passes first.1 rest) end (behind_past rest first.1 p.0 p.1) h

    past_run : (all : List (ℕ × List ℕ)) (end place : List ℕ) → AllPast tail all → Cut tail end place → IsLast (unspliced place)
        → RunCut (behind_passing passes end all) place (passing passes all) []
    past_run [] end place p a last = run_cut a
    past_run (first ∷ rest) end place p a last = by_test (passes first.0)
      where
        by_test : (test : Bool) → RunCut (if test then behind_passing passes first.1 rest else end) place
            (if test then first.0 ∷ passing passes rest else []) []
        by_test true = run_past (behind_past rest first.1 p.0 p.1) last
        by_test false = run_cut a

    run_by : (test : Bool) (byte : ℕ) {one place two copy bytes last : List ℕ} → RunCut one place bytes last → Cut tail two copy
        → RunCut (if test then one else two) (if test then place else copy) (if test then byte ∷ bytes else []) (if test then byte ∷ last else [])
    run_by true byte (run_cut a) b = run_cut a
    run_by true byte (run_past h last) b = run_past h last
    run_by false byte a b = run_cut b

    passed-cut : {all more : List (ℕ × List ℕ)} → FrontsCut tail all more → (end place : List ℕ) → Cut tail end place → unspliced place ≡ from_first more
        → RunCut (behind_passing passes end all) (behind_passing passes place more) (passing passes all) (passing passes more)
    unfolding unspliced
    passed-cut (none_left {all = all} p) end place a is = past_run all end place p a (inl is)
    passed-cut (backslash_left {all = all} p) end place a is = simp stops (past_run all end place p a (inr is))
    passed-cut (fronts_before byte {text = text} {copy = copy} b more) end place a is = run_by (passes byte) byte (passed-cut more text copy b refl) a

    pub behind_run-cut : {text copy : List ℕ} → Cut tail text copy
        → RunCut (behind_run passes text) (behind_run passes copy) (run passes text) (run passes copy)
    unfolding behind_run run unspliced
    behind_run-cut {text = text} {copy = copy} a = passed-cut (fronts-cut a) text copy a refl

  -- what a backslash quotes
  or_if : (test : Bool) {one two more rest : List ℕ} → Or tail one two → Or tail more rest → Or tail (if test then one else more) (if test then two else rest)
  or_if true a b = a
  or_if false a b = b

  drop_end : (all : List ℕ) → all ≡ tail → Or tail (drop 1 all) []
  drop_end [] e = inr (subst (λ x. Cut tail x []) (sym e) at_cut)
  drop_end (byte ∷ rest) e = let same = ap length e in inl (omega (arith, same))

  pub drop-cut : {text copy : List ℕ} → Cut tail text copy → Or tail (drop 1 text) (drop 1 copy)
  drop-cut at_cut = drop_end tail refl
  drop-cut (before byte a) = inr a

  backslash_end : (braces : Bool) (all : List ℕ) → all ≡ tail → Or tail (behind_backslash braces all) []
  backslash_end braces [] e = inr (subst (λ x. Cut tail x []) (sym e) at_cut)
  backslash_end braces (byte ∷ rest) e = by_test (is_quoted_escape byte || (braces && (byte == CLOSE_BRACE)))
    where
      by_test : (test : Bool) → Or tail (if test then rest else byte ∷ rest) []
      by_test true = let same = ap length e in inl (omega (arith, same))
      by_test false = inr (subst (λ x. Cut tail x []) (sym e) at_cut)

  pub backslash-cut : (braces : Bool) {text copy : List ℕ} → Cut tail text copy → Or tail (behind_backslash braces text) (behind_backslash braces copy)
  backslash-cut braces at_cut = backslash_end braces tail refl
  backslash-cut braces (before byte a) =
      or_if (is_quoted_escape byte || (braces && (byte == CLOSE_BRACE))) (inr a) (inr (before byte a))

  -- the beginning of a `${ }`; where the copy has none of the forms, nothing is said
  pub data HeadsCut : Head → Head → Type 0 where
    cut_whole : {what other : Param} {measured again : Bool} {rest copy : List ℕ} → Cut tail rest copy
        → HeadsCut (whole what measured rest) (whole other again copy)
    cut_with_word : {what other : Param} {by : Operator} {rest copy : List ℕ} → Cut tail rest copy
        → HeadsCut (with_word what by rest) (with_word other by copy)
    past_word : {what : Param} {by : Operator} {rest : List ℕ} {result : Head} → Past tail rest → HeadsCut (with_word what by rest) result
    without_form : {found : Head} → HeadsCut found no_form

  data ParametersCut : Option (Param × Bool × List ℕ) → Option (Param × Bool × List ℕ) → Type 0 where
    no_parameter : {found : Option (Param × Bool × List ℕ)} → ParametersCut found None
    cut_parameter : {what other : Param} {assigns : Bool} {rest copy : List ℕ} → Cut tail rest copy
        → ParametersCut (Some (what, assigns, rest)) (Some (other, assigns, copy))
    last_parameter : {found : Option (Param × Bool × List ℕ)} {other : Param} {assigns : Bool} {copy : List ℕ} → IsLast (unspliced copy)
        → ParametersCut found (Some (other, assigns, copy))

  head_if : (test : Bool) {one two more rest : Head} → HeadsCut one two → HeadsCut more rest
      → HeadsCut (if test then one else more) (if test then two else rest)
  head_if true a b = a
  head_if false a b = b

  head_first_if : (test : Bool) {one more result : Head} → HeadsCut one result → HeadsCut more result → HeadsCut (if test then one else more) result
  head_first_if true a b = a
  head_first_if false a b = b

  parameter_if : (test : Bool) {one two more rest : Option (Param × Bool × List ℕ)} → ParametersCut one two → ParametersCut more rest
      → ParametersCut (if test then one else more) (if test then two else rest)
  parameter_if true a b = a
  parameter_if false a b = b

  closing-cut : (what other : Param) (measured : Bool) {front copy : List ℕ} → FirstCut tail front copy
      → HeadsCut (closing_brace what measured front) (closing_brace other measured copy)
  closing-cut what other measured (none_next p) = without_form
  closing-cut what other measured (backslash_next p) = without_form
  closing-cut what other measured (byte_next byte a) = head_if (byte == CLOSE_BRACE) (cut_whole a) without_form

  operator-cut : (assigns colon : Bool) (what other : Param) (byte : ℕ) {rest copy : List ℕ} → Cut tail rest copy
      → HeadsCut (operator_at assigns colon what byte rest) (operator_at assigns colon other byte copy)
  operator-cut assigns colon what other byte a =
      head_if (byte == DASH) (cut_with_word a) (head_if (byte == QUESTION) (cut_with_word a) (head_if (byte == PLUS) (cut_with_word a)
      (head_if ((byte == EQUALS) && assigns) (cut_with_word a) without_form)))

  colon-cut : (assigns : Bool) (what other : Param) {front copy : List ℕ} → FirstCut tail front copy
      → HeadsCut (colon_at assigns what front) (colon_at assigns other copy)
  colon-cut assigns what other (none_next p) = without_form
  colon-cut assigns what other (backslash_next p) = without_form
  colon-cut assigns what other (byte_next byte a) = operator-cut assigns true what other byte a

  -- one byte more may belong to the operator: where the text looks past the cut, it has left less
  suffix_past : (what other : Param) {text copy : List ℕ} (front : List ℕ) → Cut tail text copy → FirstPast tail front
      → HeadsCut (suffix_at what text front) (suffix_at other copy [])
  suffix_past what other [] t p = cut_with_word t
  suffix_past what other (byte ∷ rest) t p = head_first_if (byte == PERCENT) (past_word p) (cut_with_word t)

  suffix-cut : (what other : Param) {text copy front last : List ℕ} → Cut tail text copy → FirstCut tail front last
      → HeadsCut (suffix_at what text front) (suffix_at other copy last)
  suffix-cut what other t (none_next {front = front} p) = suffix_past what other front t p
  suffix-cut what other t (backslash_next {front = front} p) = suffix_past what other front t p
  suffix-cut what other t (byte_next byte a) = head_if (byte == PERCENT) (cut_with_word a) (cut_with_word t)

  prefix_past : (what other : Param) {text copy : List ℕ} (front : List ℕ) → Cut tail text copy → FirstPast tail front
      → HeadsCut (prefix_at what text front) (prefix_at other copy [])
  prefix_past what other [] t p = cut_with_word t
  prefix_past what other (byte ∷ rest) t p = head_first_if (byte == HASH) (past_word p) (cut_with_word t)

  prefix-cut : (what other : Param) {text copy front last : List ℕ} → Cut tail text copy → FirstCut tail front last
      → HeadsCut (prefix_at what text front) (prefix_at other copy last)
  prefix-cut what other t (none_next {front = front} p) = prefix_past what other front t p
  prefix-cut what other t (backslash_next {front = front} p) = prefix_past what other front t p
  prefix-cut what other t (byte_next byte a) = head_if (byte == HASH) (cut_with_word a) (cut_with_word t)

  form-cut : (assigns : Bool) (what other : Param) {front copy : List ℕ} → FirstCut tail front copy
      → HeadsCut (form_at assigns what front) (form_at assigns other copy)
  form-cut assigns what other (none_next p) = without_form
  form-cut assigns what other (backslash_next p) = without_form
  form-cut assigns what other (byte_next byte a) =
      head_if (byte == CLOSE_BRACE) (cut_whole a) (head_if (byte == COLON) (colon-cut assigns what other (unspliced-cut a))
      (head_if (byte == PERCENT) (suffix-cut what other a (unspliced-cut a)) (head_if (byte == HASH) (prefix-cut what other a (unspliced-cut a))
      (operator-cut assigns false what other byte a))))

  placed-cut : (value : Option ℕ) {rest copy : List ℕ} → Cut tail rest copy → ParametersCut (placed value rest) (placed value copy)
  placed-cut None a = no_parameter
  placed-cut (Some number) a = cut_parameter a

  placed_last : (found : Option (Param × Bool × List ℕ)) (value : Option ℕ) (copy : List ℕ) → IsLast (unspliced copy)
      → ParametersCut found (placed value copy)
  placed_last found None copy last = no_parameter
  placed_last found (Some number) copy last = last_parameter last

  name_run : (byte : ℕ) {behind copy bytes others : List ℕ} → RunCut behind copy bytes others
      → (what other : Param) → ParametersCut (Some (what, true, behind)) (Some (other, true, copy))
  name_run byte (run_cut a) what other = cut_parameter a
  name_run byte (run_past h last) what other = last_parameter last

  digits_run : (byte : ℕ) {behind copy bytes others : List ℕ} → RunCut behind copy bytes others
      → ParametersCut (placed (place_value (byte ∷ bytes)) behind) (placed (place_value (byte ∷ others)) copy)
  digits_run byte (run_cut {bytes = bytes} a) = placed-cut (place_value (byte ∷ bytes)) a
  digits_run byte (run_past {copy = copy} {others = others} h last) = placed_last _ (place_value (byte ∷ others)) copy last

  parameter-cut : (byte : ℕ) {rest copy : List ℕ} → Cut tail rest copy → ParametersCut (parameter_at byte rest) (parameter_at byte copy)
  parameter-cut byte a =
      parameter_if (is_name_start byte) (name_run byte (behind_run-cut is_name_byte refl a) _ _)
      (parameter_if (is_ascii_digit byte) (digits_run byte (behind_run-cut is_ascii_digit refl a))
      (parameter_if (byte == QUESTION) (cut_parameter a) no_parameter))

  last_form : (assigns : Bool) (other : Param) (found : Head) (front : List ℕ) → IsLast front → HeadsCut found (form_at assigns other front)
  last_form assigns other found front (inl e) = subst (λ x. HeadsCut found (form_at assigns other x)) (sym e) without_form
  last_form assigns other found front (inr e) = subst (λ x. HeadsCut found (form_at assigns other x)) (sym e) without_form

  last_brace : (other : Param) (found : Head) (front : List ℕ) → IsLast front → HeadsCut found (closing_brace other true front)
  last_brace other found front (inl e) = subst (λ x. HeadsCut found (closing_brace other true x)) (sym e) without_form
  last_brace other found front (inr e) = subst (λ x. HeadsCut found (closing_brace other true x)) (sym e) without_form

  measured-cut : {found result : Option (Param × Bool × List ℕ)} → ParametersCut found result → HeadsCut (measured_at found) (measured_at result)
  measured-cut no_parameter = without_form
  measured-cut (cut_parameter {what = what} {other = other} a) = closing-cut what other true (unspliced-cut a)
  measured-cut (last_parameter {found = found} {other = other} {copy = copy} last) = last_brace other (measured_at found) (unspliced copy) last

  formed-cut : {found result : Option (Param × Bool × List ℕ)} → ParametersCut found result → HeadsCut (formed_at found) (formed_at result)
  formed-cut no_parameter = without_form
  formed-cut (cut_parameter {what = what} {other = other} {assigns = assigns} a) = form-cut assigns what other (unspliced-cut a)
  formed-cut (last_parameter {found = found} {other = other} {assigns = assigns} {copy = copy} last) =
      last_form assigns other (formed_at found) (unspliced copy) last

  hash-cut : {front copy : List ℕ} → FirstCut tail front copy → HeadsCut (hash_at front) (hash_at copy)
  hash-cut (none_next p) = without_form
  hash-cut (backslash_next p) = without_form
  hash-cut (byte_next byte a) = head_if (byte == CLOSE_BRACE) (cut_whole a) (measured-cut (parameter-cut byte a))

  head-cut : {front copy : List ℕ} → FirstCut tail front copy → HeadsCut (brace_head_at front) (brace_head_at copy)
  head-cut (none_next p) = without_form
  head-cut (backslash_next p) = without_form
  head-cut (byte_next byte a) =
      head_if (byte == HASH) (hash-cut (unspliced-cut a)) (head_if (byte == AT) (closing-cut _ _ false (unspliced-cut a))
      (head_if (byte == STAR) (closing-cut _ _ false (unspliced-cut a)) (formed-cut (parameter-cut byte a))))

  pub brace_head-cut : {text copy : List ℕ} → Cut tail text copy → HeadsCut (brace_head text) (brace_head copy)
  brace_head-cut a = head-cut (unspliced-cut a)
