-- The keys of sort (XCU sort, narrowed: no blanks, and the letters b, f, n, r alone).
use Rattle.std.specs.Prelude.{ℕ, List, [], ◌∷◌, Bool, true, false, ◌==◌, nat_le, Option, Some, None, option_map, if◌then◌else◌, codes}
use Rattle.std.specs.Char.{is_ascii_digit}
use Rattle.std.specs.List.{list_all}
use Rattle.ut_options.specs.declared.given.Given.{Given}
use Rattle.ut_options.specs.Given.{and_on, arguments, last_byte}
use Rattle.ut_options.specs.Numbers.{option_number}
use Rattle.ut_options.specs.Rows.{is_among}
use Rattle.ut_args.specs.Pieces.{cut_at}
use Rattle.ut_args.specs.Utilities.{given, letter}
use Rattle.ut_args.specs.declared.commands.Command.{Command}
use Rattle.ut_args.specs.declared.commands.Command.TheVariants as command
use Rattle.ut_args.specs.declared.lists.Key.{Key}
use Rattle.ut_args.specs.declared.lists.KeyEnd.{KeyEnd}
use Rattle.ut_args.specs.declared.lists.Ordering.{Ordering}

-- the digits that a text begins with, and what stands behind them
abbrev pub digits_front : List ℕ → List ℕ
digits_front [] = []
digits_front (byte ∷ rest) = if is_ascii_digit byte then byte ∷ digits_front rest else []

abbrev pub behind_digits : List ℕ → List ℕ
behind_digits [] = []
behind_digits (byte ∷ rest) = if is_ascii_digit byte then behind_digits rest else byte ∷ rest

-- the letters of one end of a key
abbrev pub ordering_of : List ℕ → Option Ordering
ordering_of text =
    if list_all (is_among (codes "bfnr")) text then
    Some (record {
      blanks = is_among text (letter (codes "b"));
      fold = is_among text (letter (codes "f"));
      numeric = is_among text (letter (codes "n"));
      reverse = is_among text (letter (codes "r"));
    })
    else None

-- one end of a key from its numbers and what stands behind them; the numbers are at least these
abbrev pub if_at_least : ℕ → Option ℕ → Option ℕ
if_at_least least None = None
if_at_least least (Some number) = if nat_le least number then Some number else None

abbrev pub end_with : ℕ → Option ℕ → Option ℕ → List ℕ → Option KeyEnd
end_with least field byte letters =
    and_on (if_at_least 1 field) (λ field.
    and_on (if_at_least least byte) (λ byte.
    and_on (ordering_of letters) (λ letters.
    Some (record { field = field; byte = byte; letters = letters }))))

-- a point behind the field's number, and the byte's number behind it; without a point the byte is the least one
abbrev pub end_by : ℕ → List ℕ → List ℕ → Option KeyEnd
end_by least field [] = end_with least (option_number field) (Some least) []
end_by least field (byte ∷ rest) =
    if byte == letter (codes ".") then end_with least (option_number field) (option_number (digits_front rest)) (behind_digits rest)
    else end_with least (option_number field) (Some least) (byte ∷ rest)

-- one end of a key: F[.C][bfnr], with C from `least`, which it is where it is absent
abbrev pub end_of : ℕ → List ℕ → Option KeyEnd
end_of least text = end_by least (digits_front text) (behind_digits text)

-- a key: its start with C from 1, and behind a comma its end with C from 0
abbrev pub key_by : Option (List ℕ × List ℕ) → List ℕ → Option Key
key_by None text = option_map (λ start. record { start = start; end = None }) (end_of 1 text)
key_by (Some cut) text = and_on (end_of 1 cut.0) (λ start. option_map (λ end. record { start = start; end = Some end }) (end_of 0 cut.1))

unfoldable pub key_of : List ℕ → Option Key
key_of text = key_by (cut_at (codes ",") text) text

abbrev pub keys_of : List (List ℕ) → Option (List Key)
keys_of [] = Some []
keys_of (text ∷ others) = and_on (key_of text) (λ key. option_map (λ keys. key ∷ keys) (keys_of others))

-- sort
abbrev pub sort : List Given → List (List ℕ) → Option Command
sort options operands =
    and_on (last_byte (letter (codes "t")) None options) (λ separator.
    and_on (keys_of (arguments (letter (codes "k")) options)) (λ keys.
    Some (command.Sort (record {
      ordering = record {
        blanks = given (codes "b") options;
        fold = given (codes "f") options;
        numeric = given (codes "n") options;
        reverse = given (codes "r") options;
      };
      unique = given (codes "u") options;
      separator = separator;
      keys = keys;
      operands = operands;
    }))))
