-- What `test` answers (XCU test), by the number of its arguments. Primaries are those of the profile (own): `-n -z -e -f -d` before one
-- operand, `= !=` and six comparisons of numbers between two; every other case is bad usage.
use Rattle.std.specs.Prelude.{ℕ, List, [], ◌∷◌, Bool, true, false, ◌&&◌, not, Option, Some, None, ℤ, if◌then◌else◌}
use Rattle.std.specs.Str.{bytes_eq}
use Rattle.std.specs.Ordering.{int_cmp}
use Rattle.ps_world.specs.declared.places.Place.{Place}
use Rattle.ut_test.specs.declared.outcomes.Tested.{Tested}
use Rattle.ut_test.specs.declared.outcomes.Tested.TheVariants as tested
use Rattle.ut_args.specs.declared.operators.Unary.{Unary}
use Rattle.ut_args.specs.declared.operators.Unary.TheVariants as unary
use Rattle.ut_args.specs.declared.operators.Relation.{Relation}
use Rattle.ut_args.specs.declared.operators.Binary.{Binary}
use Rattle.ut_args.specs.declared.operators.Binary.TheVariants as binary
use Rattle.ut_options.specs.Numbers.{number_of}
use Rattle.ut_args.specs.Operators.{binary_of, is_not, unary_of}
use Rattle.ut_test.specs.Operators.{holds, stands}

abbrev pub answer : Bool → Tested
answer true = tested.Yes
answer false = tested.No

-- bad usage stays bad usage
abbrev pub opposite : Tested → Tested
opposite tested.Yes = tested.No
opposite tested.No = tested.Yes
opposite tested.BadUsage = tested.BadUsage

-- the opposite, where the word in front is `!`
abbrev pub negated_by : List ℕ → Tested → Tested
negated_by word answered = if is_not word then opposite answered else tested.BadUsage

-- one argument: whether it has a byte
abbrev pub one_argument : List ℕ → Tested
one_argument [] = tested.No
one_argument (byte ∷ rest) = tested.Yes

-- an operator and its operand
abbrev pub by_unary : (List ℕ → Place) → Option Unary → List ℕ → Tested
by_unary places (Some unary.Not) operand = opposite (one_argument operand)
by_unary places (Some unary.HasBytes) operand = one_argument operand
by_unary places (Some unary.IsEmpty) operand = opposite (one_argument operand)
by_unary places (Some (unary.At asked)) operand = answer (stands asked (places operand))
by_unary places None operand = tested.BadUsage

abbrev pub two_arguments : (List ℕ → Place) → List ℕ → List ℕ → Tested
two_arguments places operator operand = by_unary places (unary_of operator) operand

-- two numbers
abbrev pub compared : Relation → Option ℤ → Option ℤ → Tested
compared how (Some left) (Some right) = answer (holds how (int_cmp left right))
compared how (Some left) None = tested.BadUsage
compared how None right = tested.BadUsage

-- an operator between two operands; where there is none, `!` may stand before two arguments
abbrev pub by_binary : (List ℕ → Place) → Option Binary → List ℕ → List ℕ → List ℕ → Tested
by_binary places (Some binary.Same) left operator right = answer (bytes_eq left right)
by_binary places (Some binary.Differ) left operator right = answer (not (bytes_eq left right))
by_binary places (Some (binary.Compare how)) left operator right = compared how (number_of left) (number_of right)
by_binary places None left operator right = negated_by left (two_arguments places operator right)

abbrev pub three_arguments : (List ℕ → Place) → List ℕ → List ℕ → List ℕ → Tested
three_arguments places left operator right = by_binary places (binary_of operator) left operator right

-- `!` before three arguments
abbrev pub four_arguments : (List ℕ → Place) → List ℕ → List ℕ → List ℕ → List ℕ → Tested
four_arguments places word left operator right = negated_by word (three_arguments places left operator right)

-- what `test` answers for these arguments, where a path names a place
abbrev pub tested_by : (List ℕ → Place) → List (List ℕ) → Tested
tested_by places [] = tested.No
tested_by places (word ∷ []) = one_argument word
tested_by places (operator ∷ operand ∷ []) = two_arguments places operator operand
tested_by places (left ∷ operator ∷ right ∷ []) = three_arguments places left operator right
tested_by places (word ∷ left ∷ operator ∷ right ∷ []) = four_arguments places word left operator right
tested_by places (first ∷ second ∷ third ∷ fourth ∷ fifth ∷ others) = tested.BadUsage

-- the operator looks at a place
abbrev pub looks : Option Unary → Bool
looks (Some unary.Not) = false
looks (Some unary.HasBytes) = false
looks (Some unary.IsEmpty) = false
looks (Some (unary.At asked)) = true
looks None = false

-- `!` before an operator that looks at a place, where the word isn't one between two operands
abbrev pub looks_in_three : Option Binary → List ℕ → List ℕ → Bool
looks_in_three (Some between) left operator = false
looks_in_three None left operator = is_not left && looks (unary_of operator)

-- the answer for these arguments hangs on a place
abbrev pub asks_a_file : List (List ℕ) → Bool
asks_a_file [] = false
asks_a_file (word ∷ []) = false
asks_a_file (operator ∷ operand ∷ []) = looks (unary_of operator)
asks_a_file (left ∷ operator ∷ right ∷ []) = looks_in_three (binary_of operator) left operator
asks_a_file (word ∷ left ∷ operator ∷ right ∷ []) = is_not word && looks_in_three (binary_of operator) left operator
asks_a_file (first ∷ second ∷ third ∷ fourth ∷ fifth ∷ others) = false
