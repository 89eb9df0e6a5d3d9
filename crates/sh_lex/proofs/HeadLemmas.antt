-- The beginning of a `${ }` leaves no more than it was given.
use Rattle.std.proofs.Common.{ℕ, Bool, true, false, Option, None, Some, ◌≤◌, List, [], ◌∷◌, if◌then◌else◌, length, arith, rules}
use Rattle.ps_lines.specs.Bytes.{is_name_byte}
use Rattle.sh_tree.specs.declared.words.Param.{Param}
use Rattle.std.specs.Char.{is_ascii_digit}
use Rattle.sh_lex.specs.Texts.{unspliced, behind_run}
use Rattle.sh_lex.specs.Heads.{Head, whole, with_word, no_form, closing_brace, operator_at, colon_at, suffix_at, prefix_at, form_at, placed, parameter_at, measured_at, hash_at, formed_at, brace_head_at, brace_head}
use Rattle.sh_lex.proofs.Fronts.{length-unspliced, length-behind_run}
use Rattle.sh_lex.specs.declared.heads.Operator.{Operator}

-- at most so many bytes are left
pub data Stays : ℕ → Head → Type 0 where
  stays_whole : {count : ℕ} {what : Param} {measured : Bool} {rest : List ℕ} → length rest ≤ count → Stays count (whole what measured rest)
  stays_word : {count : ℕ} {what : Param} {by : Operator} {rest : List ℕ} → length rest ≤ count → Stays count (with_word what by rest)
  stays_none : {count : ℕ} → Stays count no_form

Stays-if : (count : ℕ) (test : Bool) (left right : Head) → Stays count left → Stays count right
    → Stays count (if test then left else right)
Stays-if count true left right l r = l
Stays-if count false left right l r = r

-- and a parameter too
data StaysBehind : ℕ → Option (Param × Bool × List ℕ) → Type 0 where
  none_behind : {count : ℕ} → StaysBehind count None
  is_behind : {count : ℕ} {what : Param} {assigns : Bool} {rest : List ℕ} → length rest ≤ count
      → StaysBehind count (Some (what, assigns, rest))

StaysBehind-if : (count : ℕ) (test : Bool) (left right : Option (Param × Bool × List ℕ)) → StaysBehind count left
    → StaysBehind count right → StaysBehind count (if test then left else right)
StaysBehind-if count true left right l r = l
StaysBehind-if count false left right l r = r

module _ (count : ℕ) where
  closing_brace-Stays : (what : Param) (measured : Bool) (text : List ℕ) → length text ≤ count → Stays count (closing_brace what measured text)
  closing_brace-Stays what measured [] h = stays_none
  closing_brace-Stays what measured (byte ∷ rest) h = search (Stays-if, stays_whole, stays_word, stays_none, rules) depth 12

  operator-Stays : (assigns colon : Bool) (what : Param) (byte : ℕ) (rest : List ℕ) → length rest ≤ count
      → Stays count (operator_at assigns colon what byte rest)
  operator-Stays assigns colon what byte rest h =
      search (Stays-if, stays_word, stays_none, rules) depth 12

  colon-Stays : (assigns : Bool) (what : Param) (text : List ℕ) → length text ≤ count → Stays count (colon_at assigns what text)
  colon-Stays assigns what [] h = stays_none
  colon-Stays assigns what (byte ∷ rest) h = operator-Stays assigns true what byte rest (omega arith)

  suffix-Stays : (what : Param) (text front : List ℕ) → length text ≤ count → length front ≤ count → Stays count (suffix_at what text front)
  suffix-Stays what text [] h k = stays_word h
  suffix-Stays what text (byte ∷ rest) h k = search (Stays-if, stays_whole, stays_word, stays_none, rules) depth 12

  prefix-Stays : (what : Param) (text front : List ℕ) → length text ≤ count → length front ≤ count → Stays count (prefix_at what text front)
  prefix-Stays what text [] h k = stays_word h
  prefix-Stays what text (byte ∷ rest) h k = search (Stays-if, stays_whole, stays_word, stays_none, rules) depth 12

  form-Stays : (assigns : Bool) (what : Param) (text : List ℕ) → length text ≤ count → Stays count (form_at assigns what text)
  form-Stays assigns what [] h = stays_none
  form-Stays assigns what (byte ∷ rest) h =
      let less : length rest ≤ count = omega arith in
      let inside : length (unspliced rest) ≤ count = omega (arith, length-unspliced rest) in
      search (Stays-if, stays_whole, colon-Stays, suffix-Stays, prefix-Stays, operator-Stays, rules) depth 12

  placed-Stays : (value : Option ℕ) (rest : List ℕ) → length rest ≤ count → StaysBehind count (placed value rest)
  placed-Stays None rest h = none_behind
  placed-Stays (Some number) rest h = is_behind h

  parameter-Stays : (byte : ℕ) (rest : List ℕ) → length rest ≤ count → StaysBehind count (parameter_at byte rest)
  parameter-Stays byte rest h =
      let name : length (behind_run is_name_byte rest) ≤ count = omega (arith, length-behind_run is_name_byte rest) in
      let digits : length (behind_run is_ascii_digit rest) ≤ count = omega (arith, length-behind_run is_ascii_digit rest) in
      search (StaysBehind-if, is_behind, none_behind, placed-Stays, rules) depth 12

  measured-Stays : (found : Option (Param × Bool × List ℕ)) → StaysBehind count found → Stays count (measured_at found)
  measured-Stays None none_behind = stays_none
  measured-Stays (Some (what, assigns, rest)) (is_behind h) =
      closing_brace-Stays what true (unspliced rest) (omega (arith, length-unspliced rest))

  formed-Stays : (found : Option (Param × Bool × List ℕ)) → StaysBehind count found → Stays count (formed_at found)
  formed-Stays None none_behind = stays_none
  formed-Stays (Some (what, assigns, rest)) (is_behind h) =
      form-Stays assigns what (unspliced rest) (omega (arith, length-unspliced rest))

  hash-Stays : (text : List ℕ) → length text ≤ count → Stays count (hash_at text)
  hash-Stays [] h = stays_none
  hash-Stays (byte ∷ rest) h =
      search (Stays-if, stays_whole, stays_word, stays_none, measured-Stays, parameter-Stays, rules) depth 12

  brace_head_at-Stays : (text : List ℕ) → length text ≤ count → Stays count (brace_head_at text)
  brace_head_at-Stays [] h = stays_none
  brace_head_at-Stays (byte ∷ rest) h =
      let inside : length (unspliced rest) ≤ count = omega (arith, length-unspliced rest) in
      search (Stays-if, stays_whole, stays_word, stays_none, hash-Stays, closing_brace-Stays, formed-Stays, parameter-Stays, rules) depth 12

pub brace_head-Stays : (count : ℕ) (text : List ℕ) → length text ≤ count → Stays count (brace_head text)
brace_head-Stays count text h = brace_head_at-Stays count (unspliced text) (omega (arith, length-unspliced text))
