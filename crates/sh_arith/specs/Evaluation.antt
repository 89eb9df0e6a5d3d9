-- What the calls that evaluate answer and leave.
use Rattle.std.specs.Prelude.{◌≡◌, ◌⊎◌, List, map, None, true, false, ℤ, Result, Ok, Err}
use Rattle.sh_arith.specs.declared.faults.ArithFault.{ArithFault}
use Rattle.sh_arith.specs.declared.faults.ArithFault.TheVariants.{Memory}
use Rattle.sh_arith.specs.declared.operators.Operator.{Operator}
use Rattle.sh_arith.specs.declared.evaluation.Evaluated.{Evaluated}
use Rattle.sh_arith.specs.Operators.{is_zero}
use Rattle.sh_arith.specs.Tokens.{Token, meaning}
use Rattle.sh_arith.specs.Trees.{Tree}
use Rattle.sh_arith.specs.Variables.{Variables}
use Rattle.sh_arith.specs.Values.{Outcome, Reaches, decided}

-- a fault is the outcome's, or want of memory at a moment of the evaluation
abbrev pub Fails : Outcome → (Variables → Type 0) → Variables → ArithFault → Type 0
Fails outcome Reached new fault = (outcome ≡ (Err fault, new)) ⊎ ((fault ≡ Memory) × Reached new)

-- the value is the outcome's, and these tokens are left
abbrev pub Ends : Outcome → (Variables → Type 0) → List Token → Variables → Result Evaluated ArithFault → Type 0
Ends outcome Reached rest new (Ok found) = (outcome ≡ (Ok found.value, new)) × (map meaning found.rest.now ≡ rest)
Ends outcome Reached rest new (Err fault) = Fails outcome Reached new fault

-- a moment of an operator's right side, and of a side of `?:`
abbrev pub ReachesRight : Operator → ℤ → Tree → Variables → Variables → Type 0
ReachesRight operator value right old new = (decided operator value ≡ None) × Reaches right old new

abbrev pub ReachesSide : ℤ → Tree → Tree → Variables → Variables → Type 0
ReachesSide value chosen other old new = ((is_zero value ≡ false) × Reaches chosen old new) ⊎ ((is_zero value ≡ true) × Reaches other old new)
