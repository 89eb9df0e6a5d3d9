-- The outcome of a text as an arithmetic expression (XCU 2.6.4): its value or its fault, and the variables after it. A text of
-- white space alone is 0 (own). What isn't an expression is Syntax and what nests too deep is Deep, before anything is evaluated
-- and in this order (own).
use Rattle.std.specs.Prelude.{◌≡◌, ◌⊎◌, ℕ, ◌<◌, ◌≤◌, List, [], pos, Ok, Err}
use Rattle.sh_arith.specs.declared.faults.ArithFault.TheVariants.{Syntax, Deep}
use Rattle.sh_arith.specs.declared.levels.TheConstants.{MAX_LEVELS}
use Rattle.sh_arith.specs.Variables.{Variables}
use Rattle.sh_arith.specs.Tokens.{Token, Lexes}
use Rattle.sh_arith.specs.Trees.{Tree, Reads}
use Rattle.sh_arith.specs.Levels.{levels}
use Rattle.sh_arith.specs.Values.{Outcome, evaluate, Reaches}

-- the text writes this expression
pub record Writes (text : List ℕ) (tree : Tree) : Type 0 where
  pub tokens : List Token
  pub lexed : Lexes text tokens
  pub read : Reads tokens tree

pub data HasOutcome : List ℕ → Variables → Outcome → Type 0 where
  blank : {text : List ℕ} {variables : Variables} → Lexes text [] → HasOutcome text variables (Ok (pos 0), variables)
  no_expression : {text : List ℕ} {variables : Variables} → (Lexes text [] → ⊥) → ((tree : Tree) → Writes text tree → ⊥) → HasOutcome text variables (Err Syntax, variables)
  too_deep : {text : List ℕ} {variables : Variables} {tree : Tree} → Writes text tree → MAX_LEVELS < levels tree → HasOutcome text variables (Err Deep, variables)
  evaluated : {text : List ℕ} {variables : Variables} {outcome : Outcome} {tree : Tree} → Writes text tree → levels tree ≤ MAX_LEVELS → evaluate tree variables ≡ outcome → HasOutcome text variables outcome

-- the variables are these before the text is evaluated, or at a moment of its evaluation
abbrev pub IsUnderWay : List ℕ → Variables → Variables → Type 0
IsUnderWay text old new = (new ≡ old) ⊎ ((tree : Tree) × Writes text tree × (levels tree ≤ MAX_LEVELS) × Reaches tree old new)
