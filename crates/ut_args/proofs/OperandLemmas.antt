-- Commands some of whose operands are the empty text.
use Rattle.std.proofs.Common.{◌≡◌, ◌≤◌, ◌<◌, ℕ, ◌+◌, ◌-◌, Bool, true, false, List, [], ◌∷◌, ◌++◌, Option, Some, None, option_map, Result, Ok, Err, drop, get_or, length, min, take, refl, ap, sym, subst, ◌∙◌, append_assoc, append-nil, length-append, arith, codes, if◌then◌else◌, ◌||◌, ◌&&◌, ◌==◌, not}
use Rattle.std.proofs.Math.Seq.{take-append_seam}
use Rattle.std.proofs.lemmas.Bool.{and_parts, cond-true}
use Rattle.std.proofs.lemmas.List.{take-map}
use Rattle.std.proofs.lemmas.List.Sums.{length-filter}
use Rattle.std.proofs.lemmas.Result.{IfOk-at_ok}
use Rattle.std.specs.Global.{Vec}
use Rattle.std.specs.List.{filter, list_all}
use Rattle.std.specs.Option.{IfSome}
use Rattle.std.specs.Result.{IfOk}
use Rattle.std.specs.Str.{bytes_eq}
use Rattle.ps_lines.specs.Lines.{is_empty}
use Rattle.ps_lines.specs.Texts.{texts_of}
use Rattle.ut_options.proofs.ScanLemmas.{begins_with_operand, no-fault, reads-front, same-ok}
use Rattle.ut_options.specs.Given.{and_on, arguments, last_byte, last_by, last_number, only_of}
use Rattle.ut_options.specs.Numbers.{option_number}
use Rattle.ut_options.specs.Scanning.{scanned}
use Rattle.ut_options.specs.declared.given.Given.{Given}
use Rattle.ut_options.specs.declared.scanning.Scanned.{Scanned}
use Rattle.ut_options.specs.declared.usage.Usage.{Usage}
use Rattle.ut_options.specs.declared.usage.Usage.TheVariants as usage
use Rattle.ut_strings.specs.Strings.{first_of, second_of}
use Rattle.ut_args.specs.Built.{is_built_by}
use Rattle.ut_args.specs.Classes.{class_by, is_no_count, keeps_closed_by, report_class}
use Rattle.ut_args.specs.Inputs.{counted, emptied, is_named, joined_inputs, operands_by, remaining, separate_inputs, with_operands}
use Rattle.ut_args.specs.Keys.{keys_of, sort}
use Rattle.ut_args.specs.Lists.{bytes_or_fields, cut, delimiters_of, list_of, paste, place_of}
use Rattle.ut_args.specs.Names.{name_of}
use Rattle.ut_args.specs.Reading.{asked as asked_words, asked_behind, asked_by, asked_if_known, if_some, invocation, told_of}
use Rattle.ut_args.specs.Shell.{are_names, before_bracket, begins_with_sign, begins_with_word, bracketed, one_at_most, set_fault, status_of, test_fault, unless_fault}
use Rattle.ut_args.specs.Strings.{is_one_of, tr, tr_by, tr_two}
use Rattle.ut_args.specs.Table.{row}
use Rattle.ut_args.specs.Utilities.{given, grep, grep_first, grep_for, groups_by, has_at_most_one, head, in_lines, letter, report_by, syntax_by, tail, tail_from, uniq, wc}
use Rattle.ut_args.specs.declared.classes.Class.TheVariants as class
use Rattle.ut_args.specs.declared.commands.Command.{Command}
use Rattle.ut_args.specs.declared.commands.Command.TheVariants as command
use Rattle.ut_args.specs.declared.commands.Groups.{Groups}
use Rattle.ut_args.specs.declared.commands.Origin.TheVariants as origin
use Rattle.ut_args.specs.declared.commands.Parts.{Parts}
use Rattle.ut_args.specs.declared.commands.Report.{Report}
use Rattle.ut_args.specs.declared.commands.Syntax.{Syntax}
use Rattle.ut_args.specs.declared.commands.Tail.{Tail}
use Rattle.ut_args.specs.declared.commands.Unit.TheVariants as unit
use Rattle.ut_args.specs.declared.lists.Key.{Key}
use Rattle.ut_args.specs.declared.lists.Range.{Range}
use Rattle.ut_args.specs.declared.names.Name.{Name}
use Rattle.ut_args.specs.declared.names.Name.TheVariants as name

-- there are as many operands, and no option is first of them where none was
pub at_most_one-emptied : (flags : List Bool) (operands : List (List ℕ)) → has_at_most_one (emptied flags operands) ≡ has_at_most_one operands
at_most_one-emptied flags [] = refl
at_most_one-emptied [] (operand ∷ operands) = refl
at_most_one-emptied (flag ∷ flags) (operand ∷ []) = refl
at_most_one-emptied (flag ∷ []) (operand ∷ another ∷ operands) = refl
at_most_one-emptied (flag ∷ other ∷ flags) (operand ∷ another ∷ operands) = refl

begins-emptied : (front : List (List ℕ)) (flags : List Bool) (operands : List (List ℕ))
    → begins_with_operand (front ++ operands) ≡ true → begins_with_operand (front ++ emptied flags operands) ≡ true
begins-emptied (word ∷ front) flags operands first = first
begins-emptied [] flags [] first = refl
begins-emptied [] [] (operand ∷ operands) first = first
begins-emptied [] (true ∷ flags) (operand ∷ operands) first = refl
begins-emptied [] (false ∷ flags) (operand ∷ operands) first = first

-- one operand, and those behind it
pub emptied-more : (flags : List Bool) (operand : List ℕ) (operands : List (List ℕ))
    → emptied flags (operand ∷ operands) ≡ (if get_or flags 0 false then [] else operand) ∷ emptied (drop 1 flags) operands
emptied-more [] operand [] = refl
emptied-more [] operand (another ∷ operands) = refl
emptied-more (flag ∷ flags) operand operands = refl

pub ruleset emptied_steps = (emptied-more, append_assoc, append-nil)

pub texts_of-take : (count : ℕ) (words : List (Vec ℕ)) → texts_of (take count words) ≡ take count (texts_of words)
texts_of-take count words = sym (take-map (λ (word : Vec ℕ). word.items) count words)

pub ruleset front_steps = (texts_of-take)

-- words that are read as a command end in its operands, and are read alike with these emptied
pub record EndsInOperands {Fault : Type 0} (reads : List (List ℕ) → Result Command Fault) (words : List (List ℕ)) (asked : Command) : Type 0 where
  pub front : List (List ℕ)
  pub whole : words ≡ front ++ operands_by asked
  pub alike : (flags : List Bool) → reads (front ++ emptied flags (operands_by asked)) ≡ Ok (with_operands (emptied flags (operands_by asked)) asked)

-- where they are read as one
abbrev Ends : (List (List ℕ) → Result Command Usage) → List (List ℕ) → Type 0
Ends reads words = IfOk (reads words) (EndsInOperands reads words)

-- commands that take no operands as inputs
record TakesNone (asked : Command) : Type 0 where
  none : operands_by asked ≡ []
  stays : (operands : List (List ℕ)) → with_operands operands asked ≡ asked

ends-none : (reads : List (List ℕ) → Result Command Usage) (words : List (List ℕ)) → IfOk (reads words) TakesNone → Ends reads words
ends-none reads words takes = by_read (reads words) refl takes
  where
    by_read : (read : Result Command Usage) → reads words ≡ read → IfOk read TakesNone → IfOk read (EndsInOperands reads words)
    by_read (Err fault) is takes = tt
    by_read (Ok asked) is takes = record {
      front = words;
      whole = sym (ap (λ operands. words ++ operands) takes.none ∙ append-nil words);
      alike = λ flags.
          ap (λ operands. reads (words ++ emptied flags operands)) takes.none ∙ ap reads (append-nil words) ∙ is
          ∙ ap Ok (sym (takes.stays (emptied flags (operands_by asked))));
    }

-- which commands these are
abbrev NoInputs : Option Command → Type 0
NoInputs asked = IfSome asked TakesNone

none-on : {Value : Type 0} (value : Option Value) (on : Value → Option Command) → ((value : Value) → NoInputs (on value)) → NoInputs (and_on value on)
none-on None on each = tt
none-on (Some value) on each = each value

none-map : {Value : Type 0} (makes : Value → Command) (value : Option Value) → ((value : Value) → TakesNone (makes value)) → NoInputs (option_map makes value)
none-map makes None each = tt
none-map makes (Some value) each = each value

none-if : (test : Bool) (one other : Option Command) → NoInputs one → NoInputs other → NoInputs (if test then one else other)
none-if true one other takes takes' = takes
none-if false one other takes takes' = takes'

none-some : (asked : Option Command) → NoInputs asked → IfOk (if_some asked) TakesNone
none-some None takes = tt
none-some (Some asked) takes = takes

none-unless : (fault : Option Usage) (asked : Command) → TakesNone asked → IfOk (unless_fault fault asked) TakesNone
none-unless None asked takes = takes
none-unless (Some fault) asked takes = tt

none-two : (complements deletes squeezes : Bool) (first second : List ℕ) → NoInputs (tr_two complements deletes squeezes first second)
none-two complements deletes squeezes first second =
    none-on (first_of complements first) _ (λ from. none-on (second_of second _) _ (λ to. record { none = refl; stays = λ operands. refl }))

none-tr : (complements deletes squeezes : Bool) (operands : List (List ℕ)) → NoInputs (tr_by complements deletes squeezes operands)
none-tr complements deletes squeezes [] = tt
none-tr complements deletes squeezes (first ∷ []) =
    none-if (is_one_of deletes squeezes) _ None (none-on (first_of complements first) _ (λ from. record { none = refl; stays = λ operands. refl })) tt
none-tr complements deletes squeezes (first ∷ second ∷ []) =
    none-if (deletes && not squeezes) None _ tt (none-two complements deletes squeezes first second)
none-tr complements deletes squeezes (first ∷ second ∷ third ∷ others) = tt

-- the commands of the shell whose words are all operands
none-set : (words : List (List ℕ)) → IfOk (asked_by name.Set [] words) TakesNone
none-set [] = tt
none-set (word ∷ others) = by_first (bytes_eq word (codes "--")) (begins_with_sign word)
  where
    by_first : (ends sign : Bool) → IfOk (if ends then Ok (command.Set (record { arguments = others })) else
        (if sign then Err (set_fault (word ∷ others)) else Ok (command.Set (record { arguments = word ∷ others })))) TakesNone
    by_first true sign = record { none = refl; stays = λ operands. refl }
    by_first false true = tt
    by_first false false = record { none = refl; stays = λ operands. refl }

none-bracket : (arguments : Option (List (List ℕ))) → IfOk (bracketed arguments) TakesNone
none-bracket None = tt
none-bracket (Some arguments) = none-unless (test_fault arguments) _ (record { none = refl; stays = λ operands. refl })

none-echo : (words : List (List ℕ)) → IfOk (asked_by name.Echo [] words) TakesNone
none-echo words = by_first (begins_with_word words (codes "-n"))
  where
    by_first : (refused : Bool) → IfOk (if refused then Err (usage.UnsupportedFlag (letter (codes "n"))) else Ok (command.Echo (record { operands = words }))) TakesNone
    by_first true = tt
    by_first false = record { none = refl; stays = λ operands. refl }

none-read : (options : List Given) (words : List (List ℕ)) → IfOk (asked_by name.Read options words) TakesNone
none-read options words = by_letter (given (codes "r") options) (are_names words)
  where
    by_letter : (letters names : Bool) → IfOk (if letters then (if names then Ok (command.Read (record { names = words })) else Err usage.BadUsage)
        else Err (usage.UnsupportedFlag (letter (codes "r")))) TakesNone
    by_letter true true = record { none = refl; stays = λ operands. refl }
    by_letter true false = tt
    by_letter false names = tt

-- commands whose operands are their inputs
record TakesAll (asks : List (List ℕ) → Option Command) (operands : List (List ℕ)) (asked : Command) : Type 0 where
  own : operands_by asked ≡ operands
  too : (flags : List Bool) → asks (emptied flags operands) ≡ Some (with_operands (emptied flags operands) asked)

-- where they are some
abbrev Takes : (List (List ℕ) → Option Command) → List (List ℕ) → Type 0
Takes asks operands = IfSome (asks operands) (TakesAll asks operands)

-- where there may be one operand at most
module _ (asks : List (List ℕ) → Option Command) (operands : List (List ℕ)) where
  abbrev if_one : List (List ℕ) → Option Command
  if_one operands = if has_at_most_one operands then asks operands else None

  takes-one : Takes asks operands → Takes if_one operands
  takes-one takes = by_one (has_at_most_one operands) refl
    where
      by_read : has_at_most_one operands ≡ true → (read : Option Command) → IfSome read (TakesAll asks operands) → IfSome read (TakesAll if_one operands)
      by_read is None takes = tt
      by_read is (Some asked) takes = record {
        own = takes.own;
        too = λ flags.
            cond-true (has_at_most_one (emptied flags operands)) (asks (emptied flags operands)) None (at_most_one-emptied flags operands ∙ is) ∙ takes.too flags;
      }

      by_one : (one : Bool) → has_at_most_one operands ≡ one → IfSome (if one then asks operands else None) (TakesAll if_one operands)
      by_one true is = by_read is (asks operands) takes
      by_one false is = tt

-- behind operands of another kind
ends-behind : (front : List (List ℕ)) (asks : List (List ℕ) → Option Command) (operands : List (List ℕ)) (read : Option Command)
    → IfSome read (TakesAll (λ operands. asks (front ++ operands)) operands)
    → IfOk (if_some read) (EndsInOperands (λ operands. if_some (asks operands)) (front ++ operands))
ends-behind front asks operands None takes = tt
ends-behind front asks operands (Some asked) takes = record {
  front = front;
  whole = ap (λ operands. front ++ operands) (sym takes.own);
  alike = λ flags.
      subst (λ operands. if_some (asks (front ++ emptied flags operands)) ≡ Ok (with_operands (emptied flags operands) asked)) (sym takes.own) (ap if_some (takes.too flags));
}

ends-all : (asks : List (List ℕ) → Option Command) (operands : List (List ℕ)) → Takes asks operands → Ends (λ operands. if_some (asks operands)) operands
ends-all asks operands takes = ends-behind [] asks operands (asks operands) takes

-- grep with its patterns, which are those of -e, else its first operand
takes-grep : (options : List Given) (patterns operands : List (List ℕ)) → Takes (grep_for options patterns) operands
takes-grep options patterns operands =
    by_kind (syntax_by (given (codes "E") options) (given (codes "F") options)) (report_by (given (codes "c") options) (given (codes "l") options) (given (codes "q") options))
  where
    by_kind : (syntax : Option Syntax) (report : Option Report) → Takes (λ operands. and_on syntax (λ syntax. and_on report (λ report. Some (command.Grep (record {
      syntax = syntax;
      report = report;
      ignores_case = given (codes "i") options;
      numbers = given (codes "n") options;
      silent = given (codes "s") options;
      inverts = given (codes "v") options;
      whole_lines = given (codes "x") options;
      patterns = in_lines patterns;
      operands = operands;
    }))))) operands
    by_kind None report = tt
    by_kind (Some syntax) None = tt
    by_kind (Some syntax) (Some report) = record { own = refl; too = λ flags. refl }

ends-grep : (options : List Given) (operands : List (List ℕ)) → Ends (λ operands. if_some (grep options operands)) operands
ends-grep options operands = by_letter (given (codes "e") options)
  where
    by_first : (operands : List (List ℕ)) → Ends (λ operands. if_some (grep_first options operands)) operands
    by_first [] = tt
    by_first (pattern ∷ operands) =
        ends-behind (pattern ∷ []) (grep_first options) operands (grep_for options (pattern ∷ []) operands) (takes-grep options (pattern ∷ []) operands)

    by_letter : (letters : Bool) → Ends (λ operands. if_some (if letters then grep_for options (arguments (letter (codes "e")) options) operands else grep_first options operands)) operands
    by_letter true = ends-all (grep_for options (arguments (letter (codes "e")) options)) operands (takes-grep options (arguments (letter (codes "e")) options) operands)
    by_letter false = by_first operands

takes-wc : (options : List Given) (operands : List (List ℕ)) → Takes (wc options) operands
takes-wc options operands =
    by_letters (given (codes "l") options) (given (codes "w") options) (given (codes "c") options || given (codes "m") options)
    (given (codes "c") options && given (codes "m") options)
    (given (codes "l") options || (given (codes "w") options || (given (codes "c") options || given (codes "m") options)))
  where
    by_letters : (lines words bytes both any : Bool) → Takes (λ operands. if both then None else Some (if any
        then command.Wc (record { lines = lines; words = words; bytes = bytes; operands = operands })
        else command.Wc (record { lines = true; words = true; bytes = true; operands = operands }))) operands
    by_letters lines words bytes true any = tt
    by_letters lines words bytes false true = record { own = refl; too = λ flags. refl }
    by_letters lines words bytes false false = record { own = refl; too = λ flags. refl }

takes-head : (count : Option ℕ) (operands : List (List ℕ))
    → Takes (λ operands. option_map (λ count. command.Head (record { count = count; operands = operands })) count) operands
takes-head None operands = tt
takes-head (Some count) operands = record { own = refl; too = λ flags. refl }

abbrev tail_by : Option Tail → List (List ℕ) → Option Command
tail_by part operands = option_map (λ part. command.Tail (record { part = part; operands = operands })) part

takes-tail : (part : Option Tail) (operands : List (List ℕ)) → Takes (tail_by part) operands
takes-tail None operands = tt
takes-tail (Some part) operands = record { own = refl; too = λ flags. refl }

abbrev uniq_by : Option Groups → Option ℕ → Option ℕ → List (List ℕ) → Option Command
uniq_by groups fields bytes operands =
    and_on groups (λ groups. and_on fields (λ fields. and_on bytes (λ bytes.
    Some (command.Uniq (record { groups = groups; fields = fields; bytes = bytes; operands = operands })))))

takes-uniq : (groups : Option Groups) (fields bytes : Option ℕ) (operands : List (List ℕ)) → Takes (uniq_by groups fields bytes) operands
takes-uniq None fields bytes operands = tt
takes-uniq (Some groups) None bytes operands = tt
takes-uniq (Some groups) (Some fields) None operands = tt
takes-uniq (Some groups) (Some fields) (Some bytes) operands = record { own = refl; too = λ flags. refl }

takes-ranges : (parts : Option Parts) (ranges : Option (List Range)) (operands : List (List ℕ))
    → Takes (λ operands. and_on parts (λ parts. and_on ranges (λ ranges. Some (command.Cut (record { parts = parts; ranges = ranges; operands = operands }))))) operands
takes-ranges None ranges operands = tt
takes-ranges (Some parts) None operands = tt
takes-ranges (Some parts) (Some ranges) operands = record { own = refl; too = λ flags. refl }

takes-cut : (options : List Given) (operands : List (List ℕ)) → Takes (cut options) operands
takes-cut options operands = by_list (last_byte (letter (codes "d")) None options) (only_of (codes "bcf") options)
  where
    by_list : (delimiter : Option (Option ℕ)) (list : Option Given) → Takes (λ operands. and_on delimiter (λ delimiter. and_on list (λ list.
        and_on (bytes_or_fields (not (list.letter == letter (codes "f"))) (given (codes "s") options) delimiter) (λ parts.
        and_on (list_of list.argument) (λ ranges. Some (command.Cut (record { parts = parts; ranges = ranges; operands = operands }))))))) operands
    by_list None list = tt
    by_list (Some delimiter) None = tt
    by_list (Some delimiter) (Some list) =
        takes-ranges (bytes_or_fields (not (list.letter == letter (codes "f"))) (given (codes "s") options) delimiter) (list_of list.argument) operands

takes-sort : (options : List Given) (operands : List (List ℕ)) → Takes (sort options) operands
takes-sort options operands = by_keys (last_byte (letter (codes "t")) None options) (keys_of (arguments (letter (codes "k")) options))
  where
    by_keys : (separator : Option (Option ℕ)) (keys : Option (List Key)) → Takes (λ operands. and_on separator (λ separator. and_on keys (λ keys. Some (command.Sort (record {
      ordering = record {
        blanks = given (codes "b") options;
        fold = given (codes "f") options;
        numeric = given (codes "n") options;
        reverse = given (codes "r") options;
      };
      unique = given (codes "u") options;
      separator = separator;
      keys = keys;
      operands = operands;
    }))))) operands
    by_keys None keys = tt
    by_keys (Some separator) None = tt
    by_keys (Some separator) (Some keys) = record { own = refl; too = λ flags. refl }

takes-paste : (serial : Bool) (delimiters : Option (List (Option ℕ))) (operands : List (List ℕ))
    → Takes (λ operands. option_map (λ delimiters. command.Paste (record { serial = serial; delimiters = delimiters; operands = operands })) delimiters) operands
takes-paste serial None operands = tt
takes-paste serial (Some delimiters) operands = record { own = refl; too = λ flags. refl }

-- each command, by its name
ends-by : (known : Name) (options : List Given) (operands : List (List ℕ)) → Ends (asked_by known options) operands
ends-by name.Cat options operands = record { front = []; whole = refl; alike = λ flags. refl }
ends-by name.Grep options operands = ends-grep options operands
ends-by name.Tr options operands =
    ends-none (asked_by name.Tr options) operands (none-some (tr options operands)
    (none-tr (given (codes "c") options || given (codes "C") options) (given (codes "d") options) (given (codes "s") options) operands))
ends-by name.Cut options operands = ends-all (cut options) operands (takes-cut options operands)
ends-by name.Head options operands = ends-all (head options) operands (takes-head (last_number (letter (codes "n")) 10 options) operands)
ends-by name.Tail options operands =
    let part = tail_from (record { unit = unit.Lines; origin = origin.End 10 }) options in
    ends-all (tail options) operands (takes-one (tail_by part) operands (takes-tail part operands))
ends-by name.Wc options operands = ends-all (wc options) operands (takes-wc options operands)
ends-by name.Uniq options operands =
    let groups = groups_by (given (codes "c") options) (given (codes "d") options) (given (codes "u") options) in
    let fields = last_number (letter (codes "f")) 0 options in
    let bytes = last_number (letter (codes "s")) 0 options in
    ends-all (uniq options) operands (takes-one (uniq_by groups fields bytes) operands (takes-uniq groups fields bytes operands))
ends-by name.Sort options operands = ends-all (sort options) operands (takes-sort options operands)
ends-by name.Paste options operands =
    ends-all (paste options) operands (takes-paste (given (codes "s") options) (last_by delimiters_of (letter (codes "d")) _ options) operands)
ends-by name.Tee options operands = ends-none (asked_by name.Tee options) operands (record { none = refl; stays = λ operands. refl })
ends-by name.True options operands = ends-none (asked_by name.True options) operands (record { none = refl; stays = λ operands. refl })
ends-by name.False options operands = ends-none (asked_by name.False options) operands (record { none = refl; stays = λ operands. refl })
ends-by name.Colon options operands = ends-none (asked_by name.Colon options) operands (record { none = refl; stays = λ operands. refl })
ends-by name.Break options operands =
    ends-none (asked_by name.Break options) operands
    (none-some _ (none-map _ (one_at_most place_of operands) (λ depth. record { none = refl; stays = λ operands. refl })))
ends-by name.Continue options operands =
    ends-none (asked_by name.Continue options) operands
    (none-some _ (none-map _ (one_at_most place_of operands) (λ depth. record { none = refl; stays = λ operands. refl })))
ends-by name.Exit options operands =
    ends-none (asked_by name.Exit options) operands
    (none-some _ (none-map _ (one_at_most status_of operands) (λ status. record { none = refl; stays = λ operands. refl })))
ends-by name.Shift options operands =
    ends-none (asked_by name.Shift options) operands
    (none-some _ (none-map _ (one_at_most option_number operands) (λ count. record { none = refl; stays = λ operands. refl })))
ends-by name.Unset options operands =
    ends-none (asked_by name.Unset options) operands
    (none-some _ (none-if (are_names operands) _ None (record { none = refl; stays = λ operands. refl }) tt))
ends-by name.Read options operands = ends-none (asked_by name.Read options) operands (none-read options operands)
ends-by name.Set options operands = ends-none (asked_by name.Set options) operands (none-set operands)
ends-by name.Test options operands =
    ends-none (asked_by name.Test options) operands (none-unless (test_fault operands) _ (record { none = refl; stays = λ operands. refl }))
ends-by name.Bracket options operands = ends-none (asked_by name.Bracket options) operands (none-bracket (before_bracket operands))
ends-by name.Echo options operands = ends-none (asked_by name.Echo options) operands (none-echo operands)

-- behind options
ends-behind_options : (known : Name) (words : List (List ℕ)) (asked : Command) → asked_behind known (scanned (row known) words) ≡ Ok asked
    → EndsInOperands (λ words. asked_behind known (scanned (row known) words)) words asked
ends-behind_options known words asked read = by_scan (scanned (row known) words) refl read
  where
    by_scan : (scan : Result Scanned Usage) → scanned (row known) words ≡ scan → asked_behind known scan ≡ Ok asked
        → EndsInOperands (λ words. asked_behind known (scanned (row known) words)) words asked
    by_scan (Err fault) is read = absurd (no-fault fault asked read)
    by_scan (Ok scan) is read =
        let outer = reads-front (row known) None words scan is in
        let inner = IfOk-at_ok (EndsInOperands (asked_by known scan.options) scan.operands) read (ends-by known scan.options scan.operands) in
        record {
          front = outer.front ++ inner.front;
          whole = outer.whole ∙ ap (λ operands. outer.front ++ operands) inner.whole ∙ sym (append_assoc outer.front inner.front (operands_by asked));
          alike = λ flags.
              ap (λ words. asked_behind known (scanned (row known) words)) (append_assoc outer.front inner.front (emptied flags (operands_by asked)))
              ∙ ap (asked_behind known) (outer.reads (inner.front ++ emptied flags (operands_by asked))
              (λ first. begins-emptied inner.front flags (operands_by asked) (ap begins_with_operand (sym inner.whole) ∙ first)))
              ∙ inner.alike flags;
        }

-- the words behind a name
ends-words : (known : Name) (words : List (List ℕ)) (asked : Command) → asked_words known words ≡ Ok asked → EndsInOperands (asked_words known) words asked
ends-words name.Set words asked read = IfOk-at_ok (EndsInOperands (asked_words name.Set) words) read (ends-by name.Set [] words)
ends-words name.Test words asked read = IfOk-at_ok (EndsInOperands (asked_words name.Test) words) read (ends-by name.Test [] words)
ends-words name.Bracket words asked read = IfOk-at_ok (EndsInOperands (asked_words name.Bracket) words) read (ends-by name.Bracket [] words)
ends-words name.Echo words asked read = IfOk-at_ok (EndsInOperands (asked_words name.Echo) words) read (ends-by name.Echo [] words)
ends-words other words asked read = ends-behind_options other words asked read

told-read : (name : List ℕ) (read : Result Command Usage) (asked : Command) → told_of name read ≡ Ok asked → read ≡ Ok asked
told-read name (Ok one) asked told = ap Ok (same-ok _ one asked refl told)
told-read name (Err (usage.UnsupportedFlag letter)) asked told = absurd (no-fault _ asked told)
told-read name (Err usage.BadUsage) asked told = absurd (no-fault _ asked told)

ends-known : (known : Option Name) (name : List ℕ) (words : List (List ℕ)) (asked : Command) → asked_if_known known name words ≡ Ok asked
    → EndsInOperands (asked_if_known known name) words asked
ends-known None name words asked read = absurd (no-fault _ asked read)
ends-known (Some known) name words asked read =
    let inner = ends-words known words asked (told-read name (asked_words known words) asked read) in
    record { front = inner.front; whole = inner.whole; alike = λ flags. ap (told_of name) (inner.alike flags) }

-- the words of an invocation
pub ends-in_operands : (words : List (List ℕ)) (asked : Command) → invocation words ≡ Ok asked → EndsInOperands invocation words asked
ends-in_operands [] asked read = absurd (no-fault _ asked read)
ends-in_operands (name ∷ words) asked read =
    let inner = ends-known (name_of name) name words asked read in
    record { front = name ∷ inner.front; whole = ap (λ words. name ∷ words) inner.whole; alike = inner.alike }

-- the words before the operands
front-taken : (words front operands : List (List ℕ)) → words ≡ front ++ operands → take (length words - length operands) words ≡ front
front-taken words front operands whole =
    let size : length words - length operands ≡ length front = (let both = ap length whole ∙ length-append front operands in omega arith) in
    ap (λ count. take count words) size ∙ ap (take (length front)) whole ∙ take-append_seam front operands

-- the words with emptied operands ask for the same, of these
pub reads-emptied : (words : List (List ℕ)) (asked : Command) (flags : List Bool) → invocation words ≡ Ok asked
    → invocation (take (length words - length (operands_by asked)) words ++ emptied flags (operands_by asked))
    ≡ Ok (with_operands (emptied flags (operands_by asked)) asked)
reads-emptied words asked flags read =
    let ends = ends-in_operands words asked read in
    ap (λ front. invocation (front ++ emptied flags (operands_by asked))) (front-taken words ends.front (operands_by asked) ends.whole) ∙ ends.alike flags

pub operands-within : (words : List (List ℕ)) (asked : Command) → invocation words ≡ Ok asked → length (operands_by asked) ≤ length words
operands-within words asked read =
    let ends = ends-in_operands words asked read in
    let both = ap length ends.whole ∙ length-append ends.front (operands_by asked) in
    omega arith

-- what else is said of a command hangs on the number of its operands alone
module _ (flags : List Bool) where
  pub operands-emptied : (asked : Command) → operands_by (with_operands (emptied flags (operands_by asked)) asked) ≡ emptied flags (operands_by asked)
  operands-emptied (command.Cat args) = refl
  operands-emptied (command.Grep args) = refl
  operands-emptied (command.Cut args) = refl
  operands-emptied (command.Head args) = refl
  operands-emptied (command.Tail args) = refl
  operands-emptied (command.Wc args) = refl
  operands-emptied (command.Uniq args) = refl
  operands-emptied (command.Sort args) = refl
  operands-emptied (command.Paste args) = refl
  operands-emptied other = refl

  pub built-emptied : (asked : Command) → is_built_by (with_operands (emptied flags (operands_by asked)) asked) ≡ is_built_by asked
  built-emptied (command.Tail args) = at_most_one-emptied flags args.operands
  built-emptied (command.Uniq args) = at_most_one-emptied flags args.operands
  built-emptied other = refl

  pub class-emptied : (asked : Command) → class_by (with_operands (emptied flags (operands_by asked)) asked) ≡ class_by asked
  class-emptied (command.Grep args) = ap (λ one. if one then report_class args.report args.numbers else class.N) (at_most_one-emptied flags args.operands)
  class-emptied (command.Head args) = ap (λ one. if one then class.P else class.N) (at_most_one-emptied flags args.operands)
  class-emptied (command.Wc args) = ap (λ one. if one then class.P else class.N) (at_most_one-emptied flags args.operands)
  class-emptied other = refl

  pub closed-emptied : (asked : Command) → keeps_closed_by (with_operands (emptied flags (operands_by asked)) asked) ≡ keeps_closed_by asked
  closed-emptied (command.Grep args) = ap (λ one. one && is_no_count args.report) (at_most_one-emptied flags args.operands)
  closed-emptied other = refl

-- of the operands that are left those name inputs that aren't empty
pub named-emptied : (flags : List Bool) (operands : List (List ℕ)) → filter is_named (emptied flags operands) ≡ filter is_named (remaining flags operands)
named-emptied flags [] = refl
named-emptied [] (operand ∷ operands) = refl
named-emptied (true ∷ flags) (operand ∷ operands) = named-emptied flags operands
named-emptied (false ∷ flags) (operand ∷ operands) =
    ap (λ rest. if is_named operand then operand ∷ rest else rest) (named-emptied flags operands)

-- operands that all name inputs are the names
pub all-named : (operands : List (List ℕ)) → list_all is_named operands ≡ true → filter is_named operands ≡ operands
all-named [] named = refl
all-named (operand ∷ operands) named =
    let parts = and_parts (is_named operand) (list_all is_named operands) named in
    cond-true (is_named operand) (operand ∷ filter is_named operands) (filter is_named operands) parts.0
    ∙ ap (λ rest. operand ∷ rest) (all-named operands parts.1)

-- how many inputs there are, by their names
pub separate-named : (operand : List ℕ) (operands : List (List ℕ))
    → separate_inputs (operand ∷ operands) ≡ counted (length (filter is_named (operand ∷ operands)))
separate-named operand operands = ap counted (sym (length-filter is_named (operand ∷ operands)))

pub joined-named : (operand : List ℕ) (operands : List (List ℕ)) → joined_inputs (operand ∷ operands) ≡ min 1 (length (filter is_named (operand ∷ operands)))
joined-named operand operands = any (operand ∷ operands)
  where
    by_empty : (empty : Bool) (operand : List ℕ) (operands : List (List ℕ)) → (if list_all is_empty operands then 0 else 1) ≡ min 1 (length (filter is_named operands))
        → (if empty && list_all is_empty operands then 0 else 1)
        ≡ min 1 (length (if not empty then operand ∷ filter is_named operands else filter is_named operands))
    by_empty true operand operands rest = rest
    by_empty false operand operands rest = omega arith

    any : (operands : List (List ℕ)) → (if list_all is_empty operands then 0 else 1) ≡ min 1 (length (filter is_named operands))
    any [] = refl
    any (operand ∷ operands) = by_empty (is_empty operand) operand operands (any operands)

pub ruleset operand_laws = (reads-emptied, built-emptied, class-emptied, closed-emptied)
