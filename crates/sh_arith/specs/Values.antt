-- Values of expressions (XCU 2.6.4; ISO C 6.5). An expression is evaluated over its tree, from the left; the first fault ends it,
-- and the assignments made before it stand. The side of `&&`, `||` and `?:` that isn't needed isn't evaluated. A constant or a
-- variable is a fault only where it is evaluated.
use Rattle.std.specs.Prelude.{◌≡◌, ℕ, suc, List, ◌∷◌, true, false, Option, Some, None, if◌then◌else◌, ℤ, pos, negsuc, Result, Ok, Err, decimal}
use Rattle.std.specs.Option.{option_map_or}
use Rattle.std.specs.FinMap as map
use Rattle.sh_arith.specs.declared.faults.ArithFault.{ArithFault}
use Rattle.sh_arith.specs.declared.operators.Operator.{Operator}
use Rattle.sh_arith.specs.declared.operators.Operator.TheVariants as operator
use Rattle.sh_arith.specs.declared.operators.Prefix.{Prefix}
use Rattle.sh_arith.specs.Variables.{Variables}
use Rattle.sh_arith.specs.Constants.{constant_value, variable_value}
use Rattle.sh_arith.specs.Operators as operators
use Rattle.sh_arith.specs.Operators.{is_zero, applied}
use Rattle.sh_arith.specs.Trees.{Tree, constant, variable, parenthesized, prefixed, binary, conditional, assignment}

-- a value or a fault, and the variables then
abbrev pub Outcome : Type 0
Outcome = Result ℤ ArithFault × Variables

-- what is evaluated after an outcome, where it is a value
abbrev pub and_then : Outcome → (ℤ → Variables → Outcome) → Outcome
and_then (Ok value, variables) next = next value variables
and_then (Err fault, variables) next = (Err fault, variables)

-- the value of a variable; one that is unset is 0 (own)
abbrev pub value_of : List ℕ → Variables → Result ℤ ArithFault
value_of name variables = option_map_or (variable_value name) (map.get variables name) (Ok (pos 0))

-- the text that an assignment gives to a variable: the value in decimal
abbrev pub assigned_text : ℤ → List ℕ
assigned_text (pos n) = decimal n
assigned_text (negsuc n) = 45 ∷ decimal (suc n)

-- the value of `&&` and `||` where the left side decides it
abbrev pub decided : Operator → ℤ → Option ℤ
decided operator.And value = if is_zero value then Some (pos 0) else None
decided operator.Or value = if is_zero value then None else Some (pos 1)
decided _ value = None

-- an operator after its left side: where that doesn't decide, the right side comes next
abbrev pub unless_decided : Option ℤ → Variables → Outcome → Outcome
unless_decided (Some value) variables otherwise = (Ok value, variables)
unless_decided None variables otherwise = otherwise

abbrev pub operated : Operator → ℤ → Variables → Outcome → Outcome
operated operator value variables right = unless_decided (decided operator value) variables (and_then right (λ other after. (applied operator value other, after)))

-- a `?:` after its condition
abbrev pub chosen_by : ℤ → Outcome → Outcome → Outcome
chosen_by value chosen other = if is_zero value then other else chosen

-- the outcome of an expression
abbrev pub evaluate : Tree → Variables → Outcome
evaluate (constant word) variables = (constant_value word, variables)
evaluate (variable name) variables = (value_of name variables, variables)
evaluate (parenthesized inner) variables = evaluate inner variables
evaluate (prefixed operator inner) variables = and_then (evaluate inner variables) (λ value after. (operators.prefixed operator value, after))
evaluate (binary operator left right) variables = and_then (evaluate left variables) (λ value after. operated operator value after (evaluate right after))
evaluate (conditional condition chosen other) variables = and_then (evaluate condition variables) (λ value after. chosen_by value (evaluate chosen after) (evaluate other after))
evaluate (assignment name value) variables = and_then (evaluate value variables) (λ number after. (Ok number, map.insert after name (assigned_text number)))

-- the variables are these at a moment of the evaluation
pub data Reaches : Tree → Variables → Variables → Type 0 where
  begins : {tree : Tree} {variables : Variables} → Reaches tree variables variables
  ends : {tree : Tree} {old new : Variables} {result : Result ℤ ArithFault} → evaluate tree old ≡ (result, new) → Reaches tree old new
  in_parentheses : {inner : Tree} {old new : Variables} → Reaches inner old new → Reaches (parenthesized inner) old new
  in_prefixed : {operator : Prefix} {inner : Tree} {old new : Variables} → Reaches inner old new → Reaches (prefixed operator inner) old new
  in_left : {operator : Operator} {left right : Tree} {old new : Variables} → Reaches left old new → Reaches (binary operator left right) old new
  in_right : {operator : Operator} {left right : Tree} {value : ℤ} {old after new : Variables} → evaluate left old ≡ (Ok value, after) → decided operator value ≡ None → Reaches right after new → Reaches (binary operator left right) old new
  in_condition : {condition chosen other : Tree} {old new : Variables} → Reaches condition old new → Reaches (conditional condition chosen other) old new
  in_chosen : {condition chosen other : Tree} {value : ℤ} {old after new : Variables} → evaluate condition old ≡ (Ok value, after) → is_zero value ≡ false → Reaches chosen after new → Reaches (conditional condition chosen other) old new
  in_other : {condition chosen other : Tree} {value : ℤ} {old after new : Variables} → evaluate condition old ≡ (Ok value, after) → is_zero value ≡ true → Reaches other after new → Reaches (conditional condition chosen other) old new
  in_value : {name : List ℕ} {value : Tree} {old new : Variables} → Reaches value old new → Reaches (assignment name value) old new
