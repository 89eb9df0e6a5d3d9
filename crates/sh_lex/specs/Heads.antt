-- The beginning of a `${ }` (XCU 2.5, 2.6.2, narrowed): its parameter, and which form it has. Names and the digits of a place are as long
-- as they can be.
use Rattle.std.specs.Prelude.{ℕ, Bool, true, false, List, [], ◌∷◌, ◌^◌, ◌==◌, ◌&&◌, if◌then◌else◌, nat_lt}
use Rattle.std.specs.declared.option.Option.{Option}
use Rattle.std.specs.declared.option.Option.TheVariants.{None, Some}
use Rattle.std.specs.Str.Parse.{digits_value}
use Rattle.sh_tree.specs.declared.words.Param.{Param}
use Rattle.sh_tree.specs.declared.words.Param.TheVariants as param
use Rattle.ps_lines.specs.Bytes.{is_name_start, is_name_byte}
use Rattle.std.specs.Char.{is_ascii_digit}
use Rattle.sh_lex.specs.Texts.{unspliced, run, behind_run}
use Rattle.sh_lex.specs.declared.bytes.TheConstants.{CLOSE_BRACE, AT, STAR, HASH, QUESTION, COLON, PERCENT, DASH, EQUALS, PLUS}
use Rattle.sh_lex.specs.declared.heads.Operator.{Operator}
use Rattle.sh_lex.specs.declared.heads.Operator.TheVariants as operator
use Rattle.sh_lex.specs.declared.heads.Parameter.{Parameter}
use Rattle.sh_lex.specs.declared.heads.Parameter.TheVariants as parameter
use Rattle.sh_lex.specs.declared.heads.Head as declared_head
use Rattle.sh_lex.specs.declared.heads.Head.TheVariants as head_is

pub data Head : Type 0 where
  -- a parameter without a word, with whether its length is meant; this is left behind the `}`
  whole : Param → Bool → List ℕ → Head
  -- a parameter and an operator, with the word that begins here
  with_word : Param → Operator → List ℕ → Head
  -- none of the forms
  no_form : Head

-- the parameter and the head that the code has found
abbrev pub param_of : Parameter → Param
param_of (parameter.Name text) = param.Name (run is_name_byte text.now)
param_of (parameter.Place number) = param.Place number
param_of parameter.At = param.At
param_of parameter.Star = param.Star
param_of parameter.Count = param.Count
param_of parameter.Status = param.Status

abbrev pub head_of : declared_head.Head → Head
head_of (head_is.Whole what measured rest) = whole (param_of what) measured rest.now
head_of (head_is.WithWord what by rest) = with_word (param_of what) by rest.now
head_of head_is.NoForm = no_form

-- the word of these is a pattern, which outer quotes don't quote
abbrev pub trims : Operator → Bool
trims (operator.Default colon) = false
trims (operator.Assign colon) = false
trims (operator.Check colon) = false
trims (operator.Alternate colon) = false
trims (operator.CutSuffix longest) = true
trims (operator.CutPrefix longest) = true

-- the `}` of a form without a word, or with the length of a parameter
abbrev pub closing_brace : Param → Bool → List ℕ → Head
closing_brace what measured [] = no_form
closing_brace what measured (byte ∷ rest) = if byte == CLOSE_BRACE then whole what measured rest else no_form

-- the operators that assign, test or replace; only a name can be assigned
abbrev pub operator_at : Bool → Bool → Param → ℕ → List ℕ → Head
operator_at assigns colon what byte rest =
    if byte == DASH then with_word what (operator.Default colon) rest
    else if byte == QUESTION then with_word what (operator.Check colon) rest
    else if byte == PLUS then with_word what (operator.Alternate colon) rest
    else if (byte == EQUALS) && assigns then with_word what (operator.Assign colon) rest
    else no_form

abbrev pub colon_at : Bool → Param → List ℕ → Head
colon_at assigns what [] = no_form
colon_at assigns what (byte ∷ rest) = operator_at assigns true what byte rest

-- `%` or `#`: twice for the longest
abbrev pub suffix_at : Param → List ℕ → List ℕ → Head
suffix_at what text [] = with_word what (operator.CutSuffix false) text
suffix_at what text (byte ∷ rest) =
    if byte == PERCENT then with_word what (operator.CutSuffix true) rest else with_word what (operator.CutSuffix false) text

abbrev pub prefix_at : Param → List ℕ → List ℕ → Head
prefix_at what text [] = with_word what (operator.CutPrefix false) text
prefix_at what text (byte ∷ rest) =
    if byte == HASH then with_word what (operator.CutPrefix true) rest else with_word what (operator.CutPrefix false) text

-- behind the parameter; `assigns` says that it can be assigned
abbrev pub form_at : Bool → Param → List ℕ → Head
form_at assigns what [] = no_form
form_at assigns what (byte ∷ rest) =
    if byte == CLOSE_BRACE then whole what false rest
    else if byte == COLON then colon_at assigns what (unspliced rest)
    else if byte == PERCENT then suffix_at what rest (unspliced rest)
    else if byte == HASH then prefix_at what rest (unspliced rest)
    else operator_at assigns false what byte rest

-- an argument's place is a number below 2^32, with leading zeros or not (own)
abbrev pub place_value : List ℕ → Option ℕ
place_value digits = if nat_lt (digits_value 10 digits) (2 ^ 32) then Some (digits_value 10 digits) else None

-- a parameter that can have each form: a name, a place, or `?`; with whether it can be assigned, and what is left behind it
abbrev pub placed : Option ℕ → List ℕ → Option (Param × Bool × List ℕ)
placed None rest = None
placed (Some number) rest = Some (param.Place number, false, rest)

abbrev pub parameter_at : ℕ → List ℕ → Option (Param × Bool × List ℕ)
parameter_at byte rest =
    if is_name_start byte then Some (param.Name (byte ∷ run is_name_byte rest), true, behind_run is_name_byte rest)
    else if is_ascii_digit byte then placed (place_value (byte ∷ run is_ascii_digit rest)) (behind_run is_ascii_digit rest)
    else if byte == QUESTION then Some (param.Status, false, rest)
    else None

abbrev pub measured_at : Option (Param × Bool × List ℕ) → Head
measured_at None = no_form
measured_at (Some (what, assigns, rest)) = closing_brace what true (unspliced rest)

-- behind `${#`: the number of arguments, or a parameter's length
abbrev pub hash_at : List ℕ → Head
hash_at [] = no_form
hash_at (byte ∷ rest) = if byte == CLOSE_BRACE then whole param.Count false rest else measured_at (parameter_at byte rest)

abbrev pub formed_at : Option (Param × Bool × List ℕ) → Head
formed_at None = no_form
formed_at (Some (what, assigns, rest)) = form_at assigns what (unspliced rest)

abbrev pub brace_head_at : List ℕ → Head
brace_head_at [] = no_form
brace_head_at (byte ∷ rest) =
    if byte == HASH then hash_at (unspliced rest)
    else if byte == AT then closing_brace param.At false (unspliced rest)
    else if byte == STAR then closing_brace param.Star false (unspliced rest)
    else formed_at (parameter_at byte rest)

-- what a text behind `${` begins with
abbrev pub brace_head : List ℕ → Head
brace_head text = brace_head_at (unspliced text)
