-- What the words behind a command's name give (XBD 12.2, guidelines 3 to 10 and 13): options, and the operands behind them. The code goes
-- from word to word.
use Rattle.std.specs.Prelude.{ℕ, List, [], ◌∷◌, ◌++◌, Bool, false, not, ◌&&◌, ◌||◌, ◌==◌, Option, Some, None, Result, Ok, Err, if◌then◌else◌, codes}
use Rattle.std.specs.Str.{bytes_eq, all_ascii_digits}
use Rattle.ps_lines.specs.Lines.{is_empty}
use Rattle.ut_options.specs.Rows.{Row, takes}
use Rattle.ut_options.specs.declared.given.Given.{Given}
use Rattle.ut_options.specs.declared.letters.Takes.{Takes}
use Rattle.ut_options.specs.declared.letters.Takes.TheVariants as taking
use Rattle.ut_options.specs.declared.scanning.Step.{Step}
use Rattle.ut_options.specs.declared.scanning.Step.TheVariants as step
use Rattle.ut_options.specs.declared.scanning.Scanned.{Scanned}
use Rattle.ut_options.specs.declared.usage.Usage.{Usage}
use Rattle.ut_options.specs.declared.usage.Usage.TheVariants as usage

-- the byte that options begin with
abbrev pub hyphen : ℕ
hyphen = 45

-- the letter of a count: a word of a hyphen and digits alone says what `-n` and the digits say (own)
abbrev pub count_letter : ℕ
count_letter = 110

-- the word begins with a hyphen
abbrev pub begins_with_hyphen : List ℕ → Bool
begins_with_hyphen [] = false
begins_with_hyphen (byte ∷ bytes) = byte == hyphen

-- the word is an operand: it begins with no hyphen, or is one alone, which is standard input
abbrev pub is_operand : List ℕ → Bool
is_operand word = not (begins_with_hyphen word) || bytes_eq word (codes "-")

-- the letters of a word of options: what stands behind its hyphen
abbrev pub letters_of : List ℕ → List ℕ
letters_of [] = []
letters_of (byte ∷ letters) = letters

-- a word is a count
abbrev pub is_count : Row → List ℕ → Bool
is_count row letters = row.counts && (not (is_empty letters) && all_ascii_digits letters)

-- the options that the letters of one word give: what the first takes decides
abbrev pub given_by : Takes → ℕ → List ℕ → List Given → List Given
given_by taking.Nothing letter rest others = record { letter = letter; argument = [] } ∷ others
given_by taking.Argument letter rest others = if is_empty rest then [] else record { letter = letter; argument = rest } ∷ []
given_by taking.Unlisted letter rest others = []

abbrev pub letters_given : Row → List ℕ → List Given
letters_given row [] = []
letters_given row (letter ∷ rest) = given_by (takes row letter) letter rest (letters_given row rest)

-- how the reading goes on behind these letters: with the next word, where the last of them may want it as its argument, or not at all
abbrev pub step_by : Takes → ℕ → List ℕ → Step → Step
step_by taking.Nothing letter rest others = others
step_by taking.Argument letter rest others = if is_empty rest then step.Next (Some letter) else step.Next None
step_by taking.Unlisted letter rest others = step.Unlisted letter

abbrev pub letters_step : Row → List ℕ → Step
letters_step row [] = step.Next None
letters_step row (letter ∷ rest) = step_by (takes row letter) letter rest (letters_step row rest)

-- the options that one word gives, where a letter before it may want it as its argument
abbrev pub word_given : Row → Option ℕ → List ℕ → List Given
word_given row (Some letter) word = record { letter = letter; argument = word } ∷ []
word_given row None word =
    if is_operand word then [] else
    if bytes_eq word (codes "--") then [] else
    if is_count row (letters_of word) then record { letter = count_letter; argument = letters_of word } ∷ [] else
    letters_given row (letters_of word)

-- how the reading goes on at one word
abbrev pub word_step : Row → Option ℕ → List ℕ → Step
word_step row (Some letter) word = step.Next None
word_step row None word =
    if is_operand word then step.Operands else
    if bytes_eq word (codes "--") then step.Ends else
    if is_count row (letters_of word) then step.Next None else
    letters_step row (letters_of word)

-- the options come before what else is read
abbrev pub behind : List Given → Result Scanned Usage → Result Scanned Usage
behind options (Ok scanned) = Ok (record { options = options ++ scanned.options; operands = scanned.operands })
behind options (Err fault) = Err fault

-- without an option, these operands
abbrev pub operands_alone : List (List ℕ) → Result Scanned Usage
operands_alone operands = Ok (record { options = []; operands = operands })

-- what a word and those behind it give, where these give so much behind an option that waits, or behind none
abbrev pub goes_on : Step → List ℕ → List (List ℕ) → (Option ℕ → Result Scanned Usage) → Result Scanned Usage
goes_on (step.Next next) word rest on = on next
goes_on step.Operands word rest on = operands_alone (word ∷ rest)
goes_on step.Ends word rest on = operands_alone rest
goes_on (step.Unlisted letter) word rest on = Err (usage.UnsupportedFlag letter)

-- what words give, where a letter before them may want the first as its argument: options and operands, else the first letter from the
-- left that isn't listed, else bad usage where an argument is missing
abbrev pub scanned_from : Row → Option ℕ → List (List ℕ) → Result Scanned Usage
scanned_from row None [] = operands_alone []
scanned_from row (Some letter) [] = Err usage.BadUsage
scanned_from row waiting (word ∷ rest) =
    behind (word_given row waiting word) (goes_on (word_step row waiting word) word rest (λ next. scanned_from row next rest))

-- what the words behind a command's name give
abbrev pub scanned : Row → List (List ℕ) → Result Scanned Usage
scanned row words = scanned_from row None words
