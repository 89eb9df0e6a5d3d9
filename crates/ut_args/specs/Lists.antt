-- The lists of cut and paste (XCU cut, paste; narrowed). The code cuts off one part after another.
use Rattle.std.specs.Prelude.{ℕ, List, [], ◌∷◌, Bool, true, false, not, ◌&&◌, ◌||◌, ◌==◌, nat_le, Option, Some, None, option_map, if◌then◌else◌, codes}
use Rattle.ps_lines.specs.Lines.{is_empty}
use Rattle.ps_lines.specs.declared.newlines.TheConstants.{NEWLINE}
use Rattle.ut_options.specs.declared.given.Given.{Given}
use Rattle.ut_options.specs.Given.{and_on, last_byte, last_by, only_of}
use Rattle.ut_options.specs.Numbers.{option_number}
use Rattle.ut_args.specs.Pieces.{cut_at, pieces}
use Rattle.ut_args.specs.Utilities.{given, letter}
use Rattle.ut_args.specs.declared.commands.Command.{Command}
use Rattle.ut_args.specs.declared.commands.Command.TheVariants as command
use Rattle.ut_args.specs.declared.commands.Parts.{Parts}
use Rattle.ut_args.specs.declared.commands.Parts.TheVariants as parts
use Rattle.ut_args.specs.declared.lists.Range.{Range}

-- a number from 1
abbrev pub if_from_one : Option ℕ → Option ℕ
if_from_one None = None
if_from_one (Some number) = if nat_le 1 number then Some number else None

abbrev pub place_of : List ℕ → Option ℕ
place_of text = if_from_one (option_number text)

-- the range from one place up to another that isn't before it
abbrev pub range_between : ℕ → ℕ → Option Range
range_between from to = if nat_le from to then Some (record { from = from; to = Some to }) else None

-- the range of a part: one place, or what stands before and behind its hyphen; a side may be missing, but not both
abbrev pub range_by : Option (List ℕ × List ℕ) → List ℕ → Option Range
range_by None part = and_on (place_of part) (λ place. Some (record { from = place; to = Some place }))
range_by (Some ([], [])) part = None
range_by (Some ([], byte ∷ rest)) part = and_on (place_of (byte ∷ rest)) (λ to. Some (record { from = 1; to = Some to }))
range_by (Some (byte ∷ rest, [])) part = and_on (place_of (byte ∷ rest)) (λ from. Some (record { from = from; to = None }))
range_by (Some (byte ∷ rest, other ∷ others)) part =
    and_on (place_of (byte ∷ rest)) (λ from. and_on (place_of (other ∷ others)) (λ to. range_between from to))

unfoldable pub range_of : List ℕ → Option Range
range_of part = range_by (cut_at (codes "-") part) part

-- the ranges of all parts
abbrev pub ranges_of : List (List ℕ) → Option (List Range)
ranges_of [] = Some []
ranges_of (part ∷ others) = and_on (range_of part) (λ range. option_map (λ ranges. range ∷ ranges) (ranges_of others))

-- the separators of a list: a comma, a space, a tab
abbrev pub list_separators : List ℕ
list_separators = 44 ∷ 32 ∷ 9 ∷ []

abbrev pub list_of : List ℕ → Option (List Range)
list_of text = ranges_of (pieces list_separators text)

-- cut: one list, of bytes, or of fields with their delimiter, which is a tab where none is given
abbrev pub bytes_or_fields : Bool → Bool → Option ℕ → Option Parts
bytes_or_fields true only_delimited None = if only_delimited then None else Some parts.Bytes
bytes_or_fields true only_delimited (Some delimiter) = None
bytes_or_fields false only_delimited None = Some (parts.Fields 9 only_delimited)
bytes_or_fields false only_delimited (Some delimiter) = Some (parts.Fields delimiter only_delimited)

abbrev pub cut : List Given → List (List ℕ) → Option Command
cut options operands =
    and_on (last_byte (letter (codes "d")) None options) (λ delimiter.
    and_on (only_of (codes "bcf") options) (λ list.
    and_on (bytes_or_fields (not (list.letter == letter (codes "f"))) (given (codes "s") options) delimiter) (λ parts.
    and_on (list_of list.argument) (λ ranges.
    Some (command.Cut (record { parts = parts; ranges = ranges; operands = operands }))))))

-- the delimiter that an escape stands for: a newline, a tab, a backslash, the empty one
unfoldable pub escaped : ℕ → Option (Option ℕ)
escaped byte =
    if byte == letter (codes "n") then Some (Some NEWLINE) else
    if byte == letter (codes "t") then Some (Some 9) else
    if byte == letter (codes "\\") then Some (Some 92) else
    if byte == letter (codes "0") then Some None else
    None

-- the delimiters that a text lists, behind a backslash and not
abbrev pub delimiters_from : Bool → List ℕ → Option (List (Option ℕ))
delimiters_from false [] = Some []
delimiters_from true [] = None
delimiters_from false (byte ∷ rest) =
    if byte == 92 then delimiters_from true rest else option_map (λ others. Some byte ∷ others) (delimiters_from false rest)
delimiters_from true (byte ∷ rest) = and_on (escaped byte) (λ one. option_map (λ others. one ∷ others) (delimiters_from false rest))

-- the delimiters of a list that isn't empty
abbrev pub delimiters_of : List ℕ → Option (List (Option ℕ))
delimiters_of text = if is_empty text then None else delimiters_from false text

-- paste: a tab where no list is given
abbrev pub paste : List Given → List (List ℕ) → Option Command
paste options operands =
    option_map (λ delimiters. command.Paste (record { serial = given (codes "s") options; delimiters = delimiters; operands = operands }))
    (last_by delimiters_of (letter (codes "d")) (Some 9 ∷ []) options)
