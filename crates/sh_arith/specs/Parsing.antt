-- How an expression is read from the left, where it is known that the tokens have one: what the calls that read it meet, in turn.
-- Operators are taken as long as they bind tighter than what stands before the expression.
use Rattle.std.specs.Prelude.{◌≡◌, ℕ, ◌<◌, ◌≤◌, List, [], ◌∷◌, Some}
use Rattle.sh_arith.specs.declared.operators.Operator.{Operator}
use Rattle.sh_arith.specs.declared.operators.Prefix.{Prefix}
use Rattle.sh_arith.specs.declared.tokens.Symbol.{Symbol}
use Rattle.sh_arith.specs.declared.tokens.Symbol.TheVariants as symbol
use Rattle.sh_arith.specs.declared.parsing.Step.{Step}
use Rattle.sh_arith.specs.declared.parsing.Step.TheVariants as step
use Rattle.sh_arith.specs.Tokens.{Token, number, name, mark}
use Rattle.sh_arith.specs.Trees.{Tree, constant, variable, parenthesized, prefixed, binary, conditional, assignment, operator_level}
use Rattle.sh_arith.specs.Syntax.{prefix_of}

-- no `=` comes next
abbrev pub NotAssigned : List Token → Type 0
NotAssigned [] = Unit {0}
NotAssigned (token ∷ rest) = token ≡ mark symbol.Assign → ⊥

-- no assignment comes next
abbrev pub NoAssignment : List Token → Type 0
NoAssignment (name word ∷ rest) = NotAssigned rest
NoAssignment _ = Unit {0}

-- no operator that binds tighter than this level comes next
abbrev pub Stops : ℕ → List Token → Type 0
Stops bound (mark (symbol.Operator operator) ∷ rest) = bound ≤ operator_level operator
Stops bound (mark symbol.Question ∷ rest) = bound ≤ 11
Stops bound _ = Unit {0}

-- this symbol doesn't come next
abbrev pub IsNotNext : Symbol → List Token → Type 0
IsNotNext sign tokens = (rest : List Token) → tokens ≡ mark sign ∷ rest → ⊥

-- an operator that binds tighter than this level comes next, and these tokens after it
abbrev pub GoesBy : Step → ℕ → List Token → List Token → Type 0
GoesBy (step.Operator operator) bound tokens rest = (operator_level operator < bound) × (tokens ≡ mark (symbol.Operator operator) ∷ rest)
GoesBy step.Question bound tokens rest = (11 < bound) × (tokens ≡ mark symbol.Question ∷ rest)

-- the tokens begin with an expression, after which others are left
mutual
  -- of any kind
  pub data IsAny : List Token → Tree → List Token → Type 0 where
    assigned : {word : List ℕ} {tokens rest : List Token} {value : Tree} → IsAny tokens value rest → IsAny (name word ∷ (mark symbol.Assign ∷ tokens)) (assignment word value) rest
    unassigned : {tokens rest : List Token} {tree : Tree} → NoAssignment tokens → IsTighter 12 tokens tree rest → IsAny tokens tree rest

  -- whose operators bind tighter than a level
  pub data IsTighter : ℕ → List Token → Tree → List Token → Type 0 where
    begun : {bound : ℕ} {tokens middle rest : List Token} {left tree : Tree} → IsOperand tokens left middle → GoesOn bound left middle tree rest → IsTighter bound tokens tree rest

  -- that is an operand
  pub data IsOperand : List Token → Tree → List Token → Type 0 where
    one_constant : {word : List ℕ} {rest : List Token} → IsOperand (number word ∷ rest) (constant word) rest
    one_variable : {word : List ℕ} {rest : List Token} → IsOperand (name word ∷ rest) (variable word) rest
    one_parenthesized : {tokens rest : List Token} {inner : Tree} → IsAny tokens inner (mark symbol.CloseParen ∷ rest) → IsOperand (mark symbol.OpenParen ∷ tokens) (parenthesized inner) rest
    one_prefixed : {sign : Symbol} {operator : Prefix} {tokens rest : List Token} {inner : Tree} → prefix_of sign ≡ Some operator → IsOperand tokens inner rest → IsOperand (mark sign ∷ tokens) (prefixed operator inner) rest

  -- that begins with one that was read before
  pub data GoesOn : ℕ → Tree → List Token → Tree → List Token → Type 0 where
    stopped : {bound : ℕ} {tree : Tree} {rest : List Token} → Stops bound rest → GoesOn bound tree rest tree rest
    operated : {bound : ℕ} {operator : Operator} {tokens middle rest : List Token} {left right tree : Tree} → operator_level operator < bound → IsTighter (operator_level operator) tokens right middle → GoesOn bound (binary operator left right) middle tree rest → GoesOn bound left (mark (symbol.Operator operator) ∷ tokens) tree rest
    asked : {bound : ℕ} {tokens middle after rest : List Token} {condition chosen other tree : Tree} → 11 < bound → IsAny tokens chosen (mark symbol.Colon ∷ middle) → IsTighter 12 middle other after → GoesOn bound (conditional condition chosen other) after tree rest → GoesOn bound condition (mark symbol.Question ∷ tokens) tree rest
