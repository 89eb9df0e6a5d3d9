-- The words of tr (XCU tr, narrowed), and whether it keeps newlines. `ut_strings` says which bytes a string stands for.
use Rattle.std.specs.Prelude.{ℕ, List, [], ◌∷◌, Bool, true, false, not, ◌&&◌, ◌||◌, ◌==◌, Option, Some, None, length, if◌then◌else◌, codes}
use Rattle.std.specs.List.{list_any}
use Rattle.ps_lines.specs.declared.newlines.TheConstants.{NEWLINE}
use Rattle.ut_options.specs.declared.given.Given.{Given}
use Rattle.ut_options.specs.Given.{and_on}
use Rattle.ut_options.specs.Rows.{is_among}
use Rattle.ut_strings.specs.Strings.{first_of, second_of}
use Rattle.ut_args.specs.Utilities.{given}
use Rattle.ut_args.specs.declared.commands.Command.{Command}
use Rattle.ut_args.specs.declared.commands.Command.TheVariants as command
use Rattle.ut_args.specs.declared.commands.TrArgs.{TrArgs}

-- tr with one string: its bytes are deleted, or squeezed
abbrev pub tr_one : Bool → Bool → Bool → List ℕ → Option Command
tr_one complements deletes squeezes first =
    and_on (first_of complements first) (λ from. Some (command.Tr (record {
      complements = complements;
      deletes = deletes;
      squeezes = squeezes;
      first = first;
      second = None;
      from = from;
      to = None;
    })))

-- with two: the bytes of the first become those of the second, or are deleted and those of the second squeezed
abbrev pub tr_two : Bool → Bool → Bool → List ℕ → List ℕ → Option Command
tr_two complements deletes squeezes first second =
    and_on (first_of complements first) (λ from. and_on (second_of second (length from)) (λ to. Some (command.Tr (record {
      complements = complements;
      deletes = deletes;
      squeezes = squeezes;
      first = first;
      second = Some second;
      from = from;
      to = Some to;
    }))))

-- one of two, and not both
abbrev pub is_one_of : Bool → Bool → Bool
is_one_of one other = (one || other) && not (one && other)

-- deleting alone takes one string, squeezing alone one or two, all else two
abbrev pub tr_by : Bool → Bool → Bool → List (List ℕ) → Option Command
tr_by complements deletes squeezes [] = None
tr_by complements deletes squeezes (first ∷ []) =
    if is_one_of deletes squeezes then tr_one complements deletes squeezes first else None
tr_by complements deletes squeezes (first ∷ second ∷ []) =
    if deletes && not squeezes then None else tr_two complements deletes squeezes first second
tr_by complements deletes squeezes (first ∷ second ∷ third ∷ others) = None

abbrev pub tr : List Given → List (List ℕ) → Option Command
tr options operands =
    tr_by (given (codes "c") options || given (codes "C") options) (given (codes "d") options) (given (codes "s") options) operands

-- the byte that a byte becomes: that at the last place at which it stands, where the second string goes on with its last byte
abbrev pub image : ℕ → ℕ → ℕ → List ℕ → List ℕ → ℕ
image byte current last [] to = current
image byte current last (one ∷ from) [] = image byte (if one == byte then last else current) last from []
image byte current last (one ∷ from) (other ∷ to) = image byte (if one == byte then other else current) other from to

-- a newline stays one, where bytes become others
abbrev pub is_kept : List ℕ → Option (List ℕ) → Bool
is_kept from None = true
is_kept from (Some to) = image NEWLINE NEWLINE NEWLINE from to == NEWLINE

-- a newline of the input is a newline of the output
abbrev pub keeps_newline : TrArgs → Bool
keeps_newline args = if args.deletes then not (is_among args.from NEWLINE) else is_kept args.from args.to
