-- Want of memory is no outcome.
use Rattle.std.proofs.Common.{◌≡◌, ℕ, ◌^◌, ◌+ℤ◌, ◌-ℤ◌, ◌*ℤ◌, neg_ℤ, nat_lt, Bool, true, false, if◌then◌else◌, Option, Some, None, Result, Ok, Err, ℤ, pos, negsuc, List, ap, ◌∙◌}
use Rattle.std.specs.Option.{option_map_or}
use Rattle.std.specs.Int.{int_shr}
use Rattle.std.specs.Int.RustNames.{int_div, int_rem}
use Rattle.std.specs.FinMap as map
use Rattle.sh_arith.specs.declared.faults.ArithFault.{ArithFault}
use Rattle.sh_arith.specs.declared.faults.ArithFault.TheVariants.{Memory, Syntax, Overflow, DivideByZero, NotANumber}
use Rattle.sh_arith.specs.declared.operators.Operator.{Operator}
use Rattle.sh_arith.specs.declared.operators.Operator.TheVariants as operator
use Rattle.sh_arith.specs.declared.operators.Prefix.{Prefix}
use Rattle.sh_arith.specs.declared.operators.Prefix.TheVariants as prefix
use Rattle.sh_arith.specs.Operators as operators
use Rattle.sh_arith.specs.Operators.{in_range, fits, is_zero, unless_zero, shifted, applied}
use Rattle.sh_arith.specs.Constants as constants
use Rattle.sh_arith.specs.Constants.{from_zero, variable_value, written}
use Rattle.sh_arith.specs.Trees.{Tree, constant, variable, parenthesized, prefixed, binary, conditional, assignment}
use Rattle.sh_arith.specs.Variables.{Variables}
use Rattle.sh_arith.specs.Values.{Outcome, assigned_text, and_then, decided, unless_decided, operated, chosen_by, evaluate}
use Rattle.sh_arith.specs.Arithmetic.{HasOutcome, blank, no_expression, too_deep, evaluated}

abbrev Never : Result ℤ ArithFault → Type 0
Never result = result ≡ Err Memory → ⊥

if_never : (test : Bool) (one other : Result ℤ ArithFault) → Never one → Never other → Never (if test then one else other)
if_never true one other h k = h
if_never false one other h k = k

in_range_never : (n : ℤ) → Never (in_range n)
in_range_never n = if_never (fits n) (Ok n) (Err Overflow) (λ e. cc) (λ e. cc)

unless_zero_never : (divisor : ℤ) (quotient : Result ℤ ArithFault) → Never quotient → Never (unless_zero divisor quotient)
unless_zero_never divisor quotient h = if_never (is_zero divisor) (Err DivideByZero) quotient (λ e. cc) h

shifted_never : (shift : ℕ → Result ℤ ArithFault) (count : ℤ) → ((n : ℕ) → Never (shift n)) → Never (shifted shift count)
shifted_never shift (pos n) h = if_never (nat_lt n 64) (shift n) (Err Overflow) (h n) (λ e. cc)
shifted_never shift (negsuc n) h = λ e. cc

applied_never : (o : Operator) (a b : ℤ) → Never (applied o a b)
applied_never operator.Multiply a b = in_range_never (a *ℤ b)
applied_never operator.Divide a b = unless_zero_never b (in_range (int_div a b)) (in_range_never (int_div a b))
applied_never operator.Remainder a b = unless_zero_never b (Ok (int_rem a b)) (λ e. cc)
applied_never operator.Add a b = in_range_never (a +ℤ b)
applied_never operator.Subtract a b = in_range_never (a -ℤ b)
applied_never operator.ShiftLeft a b = shifted_never (λ n. in_range (a *ℤ pos (2 ^ n))) b (λ n. in_range_never (a *ℤ pos (2 ^ n)))
applied_never operator.ShiftRight a b = shifted_never (λ n. Ok (int_shr a n)) b (λ n e. cc)
applied_never operator.Less a b = λ e. cc
applied_never operator.LessOrEqual a b = λ e. cc
applied_never operator.Greater a b = λ e. cc
applied_never operator.GreaterOrEqual a b = λ e. cc
applied_never operator.Equal a b = λ e. cc
applied_never operator.NotEqual a b = λ e. cc
applied_never operator.BitAnd a b = λ e. cc
applied_never operator.BitXor a b = λ e. cc
applied_never operator.BitOr a b = λ e. cc
applied_never operator.And a b = λ e. cc
applied_never operator.Or a b = λ e. cc

prefixed_never : (p : Prefix) (a : ℤ) → Never (operators.prefixed p a)
prefixed_never prefix.Plus a = λ e. cc
prefixed_never prefix.Minus a = in_range_never (neg_ℤ a)
prefixed_never prefix.Complement a = λ e. cc
prefixed_never prefix.Not a = λ e. cc

option_never : {A : Type 0} (value : A → Result ℤ ArithFault) (told : Option A) (otherwise : Result ℤ ArithFault) → ((a : A) → Never (value a)) → Never otherwise → Never (option_map_or value told otherwise)
option_never value None otherwise h k = k
option_never value (Some a) otherwise h k = h a

variable_never : (name text : List ℕ) → Never (variable_value name text)
variable_never name text = option_never (λ (w : Bool × ℕ). in_range (from_zero w.0 w.1)) (written text) (Err (NotANumber name)) (λ w. in_range_never (from_zero w.0 w.1)) (λ e. cc)

and_then_never : (outcome : Outcome) (next : ℤ → Variables → Outcome) → Never outcome.0 → ((value : ℤ) (after : Variables) → Never (next value after).0) → Never (and_then outcome next).0
and_then_never (Ok value, after) next h k = k value after
and_then_never (Err fault, after) next h k = h

unless_never : (known : Option ℤ) (after : Variables) (otherwise : Outcome) → Never otherwise.0 → Never (unless_decided known after otherwise).0
unless_never (Some value) after otherwise h = λ e. cc
unless_never None after otherwise h = h

chosen_never : (test : Bool) (one other : Outcome) → Never one.0 → Never other.0 → Never (if test then one else other).0
chosen_never true one other h k = h
chosen_never false one other h k = k

evaluate_never : (tree : Tree) (old : Variables) → Never (evaluate tree old).0
evaluate_never (constant word) old = option_never (λ (n : ℕ). in_range (from_zero false n)) (constants.constant word) (Err Syntax) (λ n. in_range_never (from_zero false n)) (λ e. cc)
evaluate_never (variable name) old = option_never (variable_value name) (map.get old name) (Ok (pos 0)) (λ text. variable_never name text) (λ e. cc)
evaluate_never (parenthesized inner) old = evaluate_never inner old
evaluate_never (prefixed p inner) old = and_then_never (evaluate inner old) (λ value after. (operators.prefixed p value, after)) (evaluate_never inner old) (λ value after. prefixed_never p value)
evaluate_never (binary o left right) old =
    and_then_never (evaluate left old) (λ value after. operated o value after (evaluate right after)) (evaluate_never left old)
    (λ value after. unless_never (decided o value) after (and_then (evaluate right after) (λ other last. (applied o value other, last)))
    (and_then_never (evaluate right after) (λ other last. (applied o value other, last)) (evaluate_never right after) (λ other last. applied_never o value other)))
evaluate_never (conditional condition chosen other) old =
    and_then_never (evaluate condition old) (λ value after. chosen_by value (evaluate chosen after) (evaluate other after)) (evaluate_never condition old)
    (λ value after. chosen_never (is_zero value) (evaluate other after) (evaluate chosen after) (evaluate_never other after) (evaluate_never chosen after))
evaluate_never (assignment name value) old = and_then_never (evaluate value old) (λ number after. (Ok number, map.insert after name (assigned_text number))) (evaluate_never value old) (λ number after e. cc)

pub no_memory : (text : List ℕ) (variables : Variables) (outcome : Outcome) → HasOutcome text variables outcome → outcome.0 ≡ Err Memory → ⊥
no_memory text variables outcome (blank none) e = cc
no_memory text variables outcome (no_expression some bad) e = cc
no_memory text variables outcome (too_deep w deep) e = cc
no_memory text variables outcome (evaluated {tree = tree} w few is) e = evaluate_never tree variables (ap (λ (o : Outcome). o.0) is ∙ e)
