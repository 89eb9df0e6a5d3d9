-- What a text behind a `$` begins (XCU 2.5, 2.6), and the form of an expansion with a word. A name is as long as it can be; without braces
-- only one digit belongs to the expansion.
use Rattle.std.specs.Prelude.{ℕ, Bool, true, false, List, [], ◌∷◌, ◌-◌, ◌==◌, if◌then◌else◌}
use Rattle.sh_tree.specs.Trees.{WordTree, no_part, part, FormTree, bare, length_of, default, assign, check_omitted, check, alternate, cut_suffix, cut_prefix}
use Rattle.sh_tree.specs.declared.words.Param.{Param}
use Rattle.sh_tree.specs.declared.words.Param.TheVariants as param
use Rattle.ps_lines.specs.Bytes.{is_name_byte}
use Rattle.sh_lex.specs.Texts.{unspliced, run, behind_run}
use Rattle.sh_lex.specs.Dollars.{introduced_by}
use Rattle.sh_lex.specs.Heads as head
use Rattle.sh_lex.specs.Heads.{Head, brace_head}
use Rattle.sh_lex.specs.declared.bytes.TheConstants.{OPEN, ZERO, AT, STAR, HASH, QUESTION}
use Rattle.sh_lex.specs.declared.Introduced.{Introduced}
use Rattle.sh_lex.specs.declared.Introduced.TheVariants as introduced
use Rattle.sh_lex.specs.declared.Operator.{Operator}
use Rattle.sh_lex.specs.declared.Operator.TheVariants as operator

pub data Expansion : Type 0 where
  -- a parameter without a word; this is left behind it
  whole : Param → Bool → List ℕ → Expansion
  -- a `${ }` with a word, which begins here
  with_word : Param → Operator → List ℕ → Expansion
  -- a `$(`, with what is left behind it
  commands : List ℕ → Expansion
  -- a `$((`
  arithmetic_text : List ℕ → Expansion
  -- a `${` that has none of the forms
  no_form : Expansion

-- what the beginning of a `${ }` is
abbrev pub braced : Head → Expansion
braced (head.whole what measured rest) = whole what measured rest
braced (head.with_word what by rest) = with_word what by rest
braced head.no_form = no_form

-- behind `$(`: another `(` begins an arithmetic expansion
abbrev pub parenthesis_at : List ℕ → List ℕ → Expansion
parenthesis_at text [] = commands text
parenthesis_at text (byte ∷ rest) = if byte == OPEN then arithmetic_text rest else commands text

-- a digit, `@`, `*`, `#` or `?` behind a `$`
abbrev pub special : ℕ → Param
special byte =
    if byte == AT then param.At
    else if byte == STAR then param.Star
    else if byte == HASH then param.Count
    else if byte == QUESTION then param.Status
    else param.Place (byte - ZERO)

-- by what the `$` introduces: `byte` is the first one behind it, `rest` is what is left behind that, and `text` what is left behind the `$`
abbrev pub expansion_by : Introduced → ℕ → List ℕ → List ℕ → Expansion
expansion_by introduced.Braces byte text rest = braced (brace_head rest)
expansion_by introduced.Parenthesis byte text rest = parenthesis_at rest (unspliced rest)
expansion_by introduced.Name byte text rest = whole (param.Name (run is_name_byte text)) false (behind_run is_name_byte text)
expansion_by introduced.Special byte text rest = whole (special byte) false rest
expansion_by (introduced.OutOfProfile spelling) byte text rest = no_form
expansion_by introduced.Nothing byte text rest = no_form

-- behind the `$` of an expansion
abbrev pub expansion_at : List ℕ → List ℕ → Expansion
expansion_at text [] = no_form
expansion_at text (byte ∷ rest) = expansion_by (introduced_by byte) byte text rest

abbrev pub expansion : List ℕ → Expansion
expansion text = expansion_at text (unspliced text)

-- the word of `?` is omitted where it has no part
abbrev pub check_form : Bool → WordTree → FormTree
check_form colon no_part = check_omitted colon
check_form colon (part first rest) = check colon (part first rest)

-- the form of an operator and its word
abbrev pub form_of : Operator → WordTree → FormTree
form_of (operator.Default colon) word = default colon word
form_of (operator.Assign colon) word = assign colon word
form_of (operator.Check colon) word = check_form colon word
form_of (operator.Alternate colon) word = alternate colon word
form_of (operator.CutSuffix longest) word = cut_suffix longest word
form_of (operator.CutPrefix longest) word = cut_prefix longest word

-- a form without a word
abbrev pub bare_form : Bool → FormTree
bare_form true = length_of
bare_form false = bare
