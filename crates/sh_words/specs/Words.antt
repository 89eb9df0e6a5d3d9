-- What a word is: its tree, the number of its command substitutions, and the first `${` in it that has none of the forms of an
-- expansion. Such a `${ }` leaves no part, and the reading goes on behind it. A word inside a word is read as a whole, and then the
-- outer one goes on. `most` is the number of levels that may still open: `${` with a word and `$((` open one each.
use Rattle.std.specs.Prelude.{◌≡◌, ℕ, zero, suc, Bool, true, false, not, List, [], ◌+◌, ◌-◌, ◌&&◌, length, drop}
use Rattle.std.specs.declared.option.Option.{Option}
use Rattle.std.specs.declared.option.Option.TheVariants.{None, Some}
use Rattle.std.specs.Option.{option_map, option_or}
use Rattle.sh_tree.specs.Trees.{WordTree, no_part, PartTree, parameter, substitution, arithmetic}
use Rattle.ps_lines.specs.Bytes.{is_name_byte}
use Rattle.sh_lex.specs.Texts.{unspliced, run, behind_run}
use Rattle.sh_lex.specs.Heads.{trims}
use Rattle.sh_lex.specs.Reads as lex
use Rattle.sh_lex.specs.declared.Construct.{Construct}
use Rattle.sh_lex.specs.declared.Construct.TheVariants as construct
use Rattle.sh_lex.specs.declared.Spot.TheVariants as spot
use Rattle.sh_tree.specs.declared.words.Param.{Param}
use Rattle.sh_words.specs.Pieces.{before, found_before}
use Rattle.sh_words.specs.Steps.{step, ends, passes, gives, expands}
use Rattle.sh_words.specs.Parameters.{expansion, whole, with_word, commands, arithmetic_text, no_form, form_of, bare_form}
use Rattle.sh_words.specs.declared.steps.Owner.TheVariants as owner
use Rattle.sh_words.specs.declared.steps.Mode.{Mode}
use Rattle.sh_words.specs.declared.steps.Mode.TheVariants as mode
use Rattle.sh_lex.specs.declared.Operator.{Operator}
use Rattle.sh_words.specs.declared.reading.TheConstants.{MAX_LEVELS}

-- what a text gives up to the end of what it stands in: its tree, how many bytes are left at its first `${` without a form, the
-- number of the next command substitution, and what is left
pub data Outcome : Type 0 where
  done : WordTree → Option ℕ → ℕ → List ℕ → Outcome

-- what an expansion gives, the same: its part, where it has a form
pub data Made : Type 0 where
  made : Option PartTree → Option ℕ → ℕ → List ℕ → Made

-- a piece in front
abbrev pub onto : PartTree → Outcome → Outcome
onto piece (done word fault number rest) = done (before piece word) fault number rest

-- what an expansion gives in front; of two `${` without a form the first is told
abbrev pub found_onto : Option PartTree → Option ℕ → Outcome → Outcome
found_onto found earlier (done word fault number rest) = done (found_before found word) (option_or earlier fault) number rest

-- the expansion with this word, or with this text
abbrev pub with_form : Param → Operator → Bool → Outcome → Made
with_form what by is_quoted (done word fault number rest) = made (Some (parameter what (form_of by word) is_quoted)) fault number rest

abbrev pub calculated : Bool → Outcome → Made
calculated is_quoted (done word fault number rest) = made (Some (arithmetic word is_quoted)) fault number rest

-- what the lexer says is left; nothing, where it refuses the text
abbrev pub left_by : lex.Outcome → List ℕ
left_by (lex.past rest) = rest
left_by (lex.refused fault) = []

-- what is left behind a construct that opens before the text
abbrev pub Passes : Construct → List ℕ → List ℕ → Type 0
Passes construct text rest = (end : lex.Outcome) × (lex.Reads construct text end × (rest ≡ left_by end))

-- a `$( )` (XCU 2.6.3)
abbrev pub in_commands : Construct
in_commands = construct.Commands (record { levels = 0; in_braces = false }) (Some 0) spot.Between

-- a `${ }` (XCU 2.6.2), at whose `$` so many bytes are left
abbrev pub in_braces : Bool → ℕ → Construct
in_braces is_quoted left = construct.BraceHead (record { levels = 0; in_braces = true }) left is_quoted

-- what is left behind the first byte
abbrev pub behind_byte : List ℕ → List ℕ
behind_byte text = drop 1 (unspliced text)

mutual
  -- the pieces of a text, with the number of its first command substitution
  pub data ReadsPieces : ℕ → Mode → ℕ → List ℕ → Outcome → Type 0 where
    has_ended : {most number : ℕ} {at : Mode} {text rest : List ℕ}
        → step at text ≡ ends rest → ReadsPieces most at number text (done no_part None number rest)
    passes_on : {most number : ℕ} {at next : Mode} {text rest : List ℕ} {end : Outcome}
        → step at text ≡ passes next rest → ReadsPieces most next number rest end → ReadsPieces most at number text end
    gives_piece : {most number : ℕ} {at next : Mode} {text rest : List ℕ} {piece : PartTree} {end : Outcome}
        → step at text ≡ gives piece next rest → ReadsPieces most next number rest end
        → ReadsPieces most at number text (onto piece end)
    expands_to : {most number left next : ℕ} {at : Mode} {is_quoted : Bool} {text rest after : List ℕ} {found : Option PartTree} {fault : Option ℕ} {end : Outcome}
        → step at text ≡ expands is_quoted left rest → ReadsExpansion most is_quoted left number rest (made found fault next after)
        → ReadsPieces most at next after end → ReadsPieces most at number text (found_onto found fault end)

  -- the expansion at whose `$` so many bytes are left, by the text behind that
  pub data ReadsExpansion : ℕ → Bool → ℕ → ℕ → List ℕ → Made → Type 0 where
    is_parameter : {most left number : ℕ} {is_quoted measured : Bool} {what : Param} {text rest : List ℕ}
        → expansion text ≡ whole what measured rest
        → ReadsExpansion most is_quoted left number text (made (Some (parameter what (bare_form measured) is_quoted)) None number rest)
    is_substitution : {most left number : ℕ} {is_quoted : Bool} {text inner rest : List ℕ}
        → expansion text ≡ commands inner → Passes in_commands inner rest
        → ReadsExpansion most is_quoted left number text (made (Some (substitution number is_quoted)) None (number + 1) rest)
    has_word : {most left number : ℕ} {is_quoted : Bool} {what : Param} {by : Operator} {text inner : List ℕ} {end : Outcome}
        → expansion text ≡ with_word what by inner
        → ReadsPieces most (mode.Word (owner.Braces (is_quoted && not (trims by)))) number inner end
        → ReadsExpansion (suc most) is_quoted left number text (with_form what by is_quoted end)
    has_arithmetic : {most left number : ℕ} {is_quoted : Bool} {text inner : List ℕ} {end : Outcome}
        → expansion text ≡ arithmetic_text inner
        → ReadsPieces most (mode.Arithmetic 0) number inner end
        → ReadsExpansion (suc most) is_quoted left number text (calculated is_quoted end)
    has_no_form : {most left number : ℕ} {is_quoted : Bool} {text rest : List ℕ}
        → expansion text ≡ no_form → Passes (in_braces is_quoted left) (behind_byte text) rest
        → ReadsExpansion most is_quoted left number text (made None (Some left) number rest)
    -- one level too many; nothing behind it is read
    word_too_deep : {left number : ℕ} {is_quoted : Bool} {what : Param} {by : Operator} {text inner : List ℕ}
        → expansion text ≡ with_word what by inner
        → ReadsExpansion zero is_quoted left number text (made None (Some left) number [])
    arithmetic_too_deep : {left number : ℕ} {is_quoted : Bool} {text inner : List ℕ}
        → expansion text ≡ arithmetic_text inner
        → ReadsExpansion zero is_quoted left number text (made None (Some left) number [])

-- what a word is: its tree, how many command substitutions it has, and the offset of its first `${` that has none of the forms of an
-- expansion
pub record WordOutcome : Type 0 where
  pub tree : WordTree
  pub subs : ℕ
  pub fault : Option ℕ

-- `total` is the number of bytes from which offsets are counted
abbrev pub word_outcome : ℕ → ℕ → Outcome → WordOutcome
word_outcome first total (done tree fault next rest) =
    record { tree = tree; subs = next - first; fault = option_map (λ left. total - left) fault }

abbrev pub ReadsBehind : ℕ → ℕ → List ℕ → WordOutcome → Type 0
ReadsBehind first total text outcome =
    (end : Outcome) × (ReadsPieces MAX_LEVELS (mode.Word owner.Token) first text end × (outcome ≡ word_outcome first total end))

-- the word whose first command substitution has this number
abbrev pub ReadsWord : ℕ → List ℕ → WordOutcome → Type 0
ReadsWord first bytes outcome = ReadsBehind first (length bytes) bytes outcome

-- an assignment `NAME=value` (XCU 2.9.1): the name, and the value behind the `=`, which is a word
abbrev pub assigned_name : List ℕ → List ℕ
assigned_name bytes = run is_name_byte bytes

abbrev pub assigned_value : List ℕ → List ℕ
assigned_value bytes = behind_byte (behind_run is_name_byte bytes)

abbrev pub ReadsAssign : ℕ → List ℕ → WordOutcome → Type 0
ReadsAssign first bytes outcome = ReadsBehind first (length bytes) (assigned_value bytes) outcome

-- there is exactly one outcome
abbrev pub HasOneOutcome : (WordOutcome → Type 0) → Type 0
HasOneOutcome Reads = (outcome : WordOutcome) × (Reads outcome × ((other : WordOutcome) → Reads other → other ≡ outcome))
