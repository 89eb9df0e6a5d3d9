-- Every invocation that was read is one of the shell's own commands, or built: tail and uniq are read with one operand at most.
use Rattle.std.proofs.Common.{◌≡◌, ℕ, Bool, true, false, List, [], ◌∷◌, Option, Some, None, option_map, Result, Ok, Err, length, refl, codes, if◌then◌else◌, ◌||◌, ◌&&◌, ◌==◌, not}
use Rattle.std.proofs.lemmas.Bool.{true≢false}
use Rattle.std.proofs.lemmas.Result.{IfOk-at_ok}
use Rattle.std.specs.Option.{IfSome}
use Rattle.std.specs.Result.{IfOk}
use Rattle.std.specs.Str.{bytes_eq}
use Rattle.ut_options.specs.Given.{and_on, arguments, last_byte, last_by, last_number, only_of}
use Rattle.ut_options.specs.Numbers.{option_number}
use Rattle.ut_options.specs.Scanning.{scanned}
use Rattle.ut_options.specs.declared.given.Given.{Given}
use Rattle.ut_options.specs.declared.scanning.Scanned.{Scanned}
use Rattle.ut_options.specs.declared.usage.Usage.{Usage}
use Rattle.ut_options.specs.declared.usage.Usage.TheVariants as usage
use Rattle.ut_strings.specs.Strings.{first_of, second_of}
use Rattle.ut_args.specs.Built.{is_built_of}
use Rattle.ut_args.specs.Invocations.{command_of}
use Rattle.ut_args.specs.Keys.{keys_of}
use Rattle.ut_args.specs.Lists.{bytes_or_fields, delimiters_of, list_of, place_of}
use Rattle.ut_args.specs.Names.{name_of}
use Rattle.ut_args.specs.Reading.{asked as asked_words, asked_behind, asked_by, asked_if_known, if_some, invocation, told_of}
use Rattle.ut_args.specs.Shell.{are_names, before_bracket, begins_with_sign, begins_with_word, bracketed, one_at_most, set_fault, status_of, test_fault, unless_fault}
use Rattle.ut_args.specs.Strings.{is_one_of, tr_by, tr_two}
use Rattle.ut_args.specs.Table.{row}
use Rattle.ut_args.specs.Utilities.{given, grep_first, grep_for, groups_by, has_at_most_one, letter, report_by, syntax_by, tail_from, wc_of}
use Rattle.ut_args.specs.declared.commands.Command.{Command}
use Rattle.ut_args.specs.declared.commands.Command.TheVariants as command
use Rattle.ut_args.specs.declared.commands.Origin.TheVariants as origin
use Rattle.ut_args.specs.declared.commands.Unit.TheVariants as unit
use Rattle.ut_args.specs.declared.faults.ArgFault.{ArgFault}
use Rattle.ut_args.specs.declared.invocations.Inv.{Inv}
use Rattle.ut_args.specs.declared.invocations.Inv.TheVariants as inv
use Rattle.ut_args.specs.declared.names.Name.{Name}
use Rattle.ut_args.specs.declared.names.Name.TheVariants as name
use Rattle.sh_eval.specs.Asking.{does}
use Rattle.sh_eval.specs.Inner.Doing.{is_own}

-- its operands are so few
abbrev fits : Command → Bool
fits (command.Tail args) = has_at_most_one args.operands
fits (command.Uniq args) = has_at_most_one args.operands
fits other = true

abbrev Fits : Command → Type 0
Fits asked = fits asked ≡ true

abbrev FitsRead : Option Command → Type 0
FitsRead read = IfSome read Fits

fits-on : {Value : Type 0} (value : Option Value) (on : Value → Option Command) → ((value : Value) → FitsRead (on value)) → FitsRead (and_on value on)
fits-on None on each = tt
fits-on (Some value) on each = each value

fits-map : {Value : Type 0} (makes : Value → Command) (value : Option Value) → ((value : Value) → Fits (makes value)) → FitsRead (option_map makes value)
fits-map makes None each = tt
fits-map makes (Some value) each = each value

fits-if : (test : Bool) (one other : Option Command) → FitsRead one → FitsRead other → FitsRead (if test then one else other)
fits-if true one other fit fit' = fit
fits-if false one other fit fit' = fit'

fits-some : (asked : Option Command) → FitsRead asked → IfOk (if_some asked) Fits
fits-some None fit = tt
fits-some (Some asked) fit = fit

fits-unless : (fault : Option Usage) (asked : Command) → Fits asked → IfOk (unless_fault fault asked) Fits
fits-unless None asked fit = fit
fits-unless (Some fault) asked fit = tt

-- where one operand at most may be there
fits-one : (operands : List (List ℕ)) (read : Option Command) → (has_at_most_one operands ≡ true → FitsRead read) → FitsRead (if has_at_most_one operands then read else None)
fits-one operands read fit = by_one (has_at_most_one operands) refl
  where
    by_one : (one : Bool) → has_at_most_one operands ≡ one → FitsRead (if one then read else None)
    by_one true is = fit is
    by_one false is = tt

fits-grep_for : (options : List Given) (patterns operands : List (List ℕ)) → FitsRead (grep_for options patterns operands)
fits-grep_for options patterns operands =
    fits-on (syntax_by (given (codes "E") options) (given (codes "F") options)) _
    (λ syntax. fits-on (report_by (given (codes "c") options) (given (codes "l") options) (given (codes "q") options)) _ (λ report. refl))

fits-grep_first : (options : List Given) (operands : List (List ℕ)) → FitsRead (grep_first options operands)
fits-grep_first options [] = tt
fits-grep_first options (pattern ∷ operands) = fits-grep_for options (pattern ∷ []) operands

fits-wc_of : (lines words bytes : Bool) (operands : List (List ℕ)) → Fits (wc_of lines words bytes operands)
fits-wc_of lines words bytes operands = by_any (lines || (words || bytes))
  where
    by_any : (any : Bool) → Fits (if any then command.Wc (record { lines = lines; words = words; bytes = bytes; operands = operands })
        else command.Wc (record { lines = true; words = true; bytes = true; operands = operands }))
    by_any true = refl
    by_any false = refl

fits-tr_two : (complements deletes squeezes : Bool) (first second : List ℕ) → FitsRead (tr_two complements deletes squeezes first second)
fits-tr_two complements deletes squeezes first second =
    fits-on (first_of complements first) _ (λ from. fits-on (second_of second _) _ (λ to. refl))

fits-tr : (complements deletes squeezes : Bool) (operands : List (List ℕ)) → FitsRead (tr_by complements deletes squeezes operands)
fits-tr complements deletes squeezes [] = tt
fits-tr complements deletes squeezes (first ∷ []) = fits-if (is_one_of deletes squeezes) _ None (fits-on (first_of complements first) _ (λ from. refl)) tt
fits-tr complements deletes squeezes (first ∷ second ∷ []) = fits-if (deletes && not squeezes) None _ tt (fits-tr_two complements deletes squeezes first second)
fits-tr complements deletes squeezes (first ∷ second ∷ third ∷ others) = tt

fits-set : (words : List (List ℕ)) → IfOk (asked_by name.Set [] words) Fits
fits-set [] = tt
fits-set (word ∷ others) = by_first (bytes_eq word (codes "--")) (begins_with_sign word)
  where
    by_first : (ends sign : Bool) → IfOk (if ends then Ok (command.Set (record { arguments = others })) else
        (if sign then Err (set_fault (word ∷ others)) else Ok (command.Set (record { arguments = word ∷ others })))) Fits
    by_first true sign = refl
    by_first false true = tt
    by_first false false = refl

fits-bracket : (arguments : Option (List (List ℕ))) → IfOk (bracketed arguments) Fits
fits-bracket None = tt
fits-bracket (Some arguments) = fits-unless (test_fault arguments) _ refl

fits-echo : (words : List (List ℕ)) → IfOk (asked_by name.Echo [] words) Fits
fits-echo words = by_first (begins_with_word words (codes "-n"))
  where
    by_first : (refused : Bool) → IfOk (if refused then Err (usage.UnsupportedFlag (letter (codes "n"))) else Ok (command.Echo (record { operands = words }))) Fits
    by_first true = tt
    by_first false = refl

fits-read : (options : List Given) (words : List (List ℕ)) → IfOk (asked_by name.Read options words) Fits
fits-read options words = by_letter (given (codes "r") options) (are_names words)
  where
    by_letter : (letters names : Bool) → IfOk (if letters then (if names then Ok (command.Read (record { names = words })) else Err usage.BadUsage)
        else Err (usage.UnsupportedFlag (letter (codes "r")))) Fits
    by_letter true true = refl
    by_letter true false = tt
    by_letter false names = tt

-- each command, by its name
fits-by : (known : Name) (options : List Given) (operands : List (List ℕ)) → IfOk (asked_by known options operands) Fits
fits-by name.Cat options operands = refl
fits-by name.Grep options operands =
    fits-some _ (fits-if (given (codes "e") options) _ _ (fits-grep_for options (arguments (letter (codes "e")) options) operands) (fits-grep_first options operands))
fits-by name.Tr options operands =
    fits-some _ (fits-tr (given (codes "c") options || given (codes "C") options) (given (codes "d") options) (given (codes "s") options) operands)
fits-by name.Cut options operands =
    fits-some _ (fits-on (last_byte (letter (codes "d")) None options) _ (λ delimiter. fits-on (only_of (codes "bcf") options) _ (λ list.
    fits-on (bytes_or_fields (not (list.letter == letter (codes "f"))) (given (codes "s") options) delimiter) _ (λ parts. fits-on (list_of list.argument) _ (λ ranges. refl)))))
fits-by name.Head options operands = fits-some _ (fits-map _ (last_number (letter (codes "n")) 10 options) (λ count. refl))
fits-by name.Tail options operands =
    fits-some _ (fits-one operands _ (λ one. fits-map _ (tail_from (record { unit = unit.Lines; origin = origin.End 10 }) options) (λ part. one)))
fits-by name.Wc options operands =
    fits-some _ (fits-if (given (codes "c") options && given (codes "m") options) None _ tt
    (fits-wc_of (given (codes "l") options) (given (codes "w") options) (given (codes "c") options || given (codes "m") options) operands))
fits-by name.Uniq options operands =
    fits-some _ (fits-one operands _ (λ one. fits-on (groups_by (given (codes "c") options) (given (codes "d") options) (given (codes "u") options)) _ (λ groups.
    fits-on (last_number (letter (codes "f")) 0 options) _ (λ fields. fits-on (last_number (letter (codes "s")) 0 options) _ (λ bytes. one)))))
fits-by name.Sort options operands =
    fits-some _ (fits-on (last_byte (letter (codes "t")) None options) _ (λ separator. fits-on (keys_of (arguments (letter (codes "k")) options)) _ (λ keys. refl)))
fits-by name.Paste options operands = fits-some _ (fits-map _ (last_by delimiters_of (letter (codes "d")) (Some 9 ∷ []) options) (λ delimiters. refl))
fits-by name.Tee options operands = refl
fits-by name.True options operands = refl
fits-by name.False options operands = refl
fits-by name.Colon options operands = refl
fits-by name.Break options operands = fits-some _ (fits-map _ (one_at_most place_of operands) (λ depth. refl))
fits-by name.Continue options operands = fits-some _ (fits-map _ (one_at_most place_of operands) (λ depth. refl))
fits-by name.Exit options operands = fits-some _ (fits-map _ (one_at_most status_of operands) (λ status. refl))
fits-by name.Shift options operands = fits-some _ (fits-map _ (one_at_most option_number operands) (λ count. refl))
fits-by name.Unset options operands = fits-some _ (fits-if (are_names operands) _ None refl tt)
fits-by name.Read options operands = fits-read options operands
fits-by name.Set options operands = fits-set operands
fits-by name.Test options operands = fits-unless (test_fault operands) _ refl
fits-by name.Bracket options operands = fits-bracket (before_bracket operands)
fits-by name.Echo options operands = fits-echo operands

fits-behind : (known : Name) (scan : Result Scanned Usage) → IfOk (asked_behind known scan) Fits
fits-behind known (Err fault) = tt
fits-behind known (Ok scan) = fits-by known scan.options scan.operands

fits-words : (known : Name) (words : List (List ℕ)) → IfOk (asked_words known words) Fits
fits-words name.Set words = fits-by name.Set [] words
fits-words name.Test words = fits-by name.Test [] words
fits-words name.Bracket words = fits-by name.Bracket [] words
fits-words name.Echo words = fits-by name.Echo [] words
fits-words other words = fits-behind other (scanned (row other) words)

fits-told : (name : List ℕ) (read : Result Command Usage) → IfOk read Fits → IfOk (told_of name read) Fits
fits-told name (Ok asked) fit = fit
fits-told name (Err (usage.UnsupportedFlag letter)) fit = tt
fits-told name (Err usage.BadUsage) fit = tt

fits-known : (known : Option Name) (name : List ℕ) (words : List (List ℕ)) → IfOk (asked_if_known known name words) Fits
fits-known None name words = tt
fits-known (Some known) name words = fits-told name (asked_words known words) (fits-words known words)

fits-invocation : (words : List (List ℕ)) → IfOk (invocation words) Fits
fits-invocation [] = tt
fits-invocation (name ∷ words) = fits-known (name_of name) name words

fits-asked : (words : List (List ℕ)) (asked : Command) → invocation words ≡ Ok asked → Fits asked
fits-asked words asked read = IfOk-at_ok Fits read (fits-invocation words)

-- an invocation
pub built-so : (it : Inv) → is_own (does [] [] (command_of it)) ≡ false → is_built_of it ≡ true
built-so (inv.Cat it) other = refl
built-so (inv.Grep it) other = refl
built-so (inv.Tr it) other = refl
built-so (inv.Cut it) other = refl
built-so (inv.Head it) other = refl
built-so (inv.Tail it) other = fits-asked it.words (command.Tail it.args) it.read
built-so (inv.Wc it) other = refl
built-so (inv.Uniq it) other = fits-asked it.words (command.Uniq it.args) it.read
built-so (inv.Sort it) other = refl
built-so (inv.Paste it) other = refl
built-so (inv.Tee it) other = refl
built-so (inv.True it) other = absurd (true≢false other)
built-so (inv.False it) other = absurd (true≢false other)
built-so (inv.Colon it) other = absurd (true≢false other)
built-so (inv.Break it) other = absurd (true≢false other)
built-so (inv.Continue it) other = absurd (true≢false other)
built-so (inv.Exit it) other = absurd (true≢false other)
built-so (inv.Set it) other = absurd (true≢false other)
built-so (inv.Shift it) other = absurd (true≢false other)
built-so (inv.Unset it) other = absurd (true≢false other)
built-so (inv.Read it) other = absurd (true≢false other)
built-so (inv.Test it) other = absurd (true≢false other)
built-so (inv.Bracket it) other = absurd (true≢false other)
built-so (inv.Echo it) other = absurd (true≢false other)
