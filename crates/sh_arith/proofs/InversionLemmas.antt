-- What the tokens that come next tell of an expression that is read.
use Rattle.std.proofs.Common.{◌≡◌, ℕ, ◌<◌, List, ◌∷◌, refl, subst, sym, arith, Some, ◌∙◌, Option}
use Rattle.sh_arith.specs.declared.operators.Operator.{Operator}
use Rattle.sh_arith.specs.declared.operators.Prefix.{Prefix}
use Rattle.sh_arith.specs.declared.tokens.Symbol.{Symbol}
use Rattle.sh_arith.specs.declared.tokens.Symbol.TheVariants as symbol
use Rattle.sh_arith.specs.Tokens.{Token, number, name, mark}
use Rattle.sh_arith.specs.Trees.{Tree, constant, variable, parenthesized, prefixed, binary, conditional, assignment, operator_level}
use Rattle.sh_arith.specs.Syntax.{prefix_of}
use Rattle.sh_arith.specs.Parsing.{NoAssignment, Stops, IsAny, assigned, unassigned, IsTighter, begun, IsOperand, one_constant, one_variable, one_parenthesized, one_prefixed, GoesOn, stopped, operated, asked}

pub any_unassigned : {tokens rest : List Token} {tree : Tree} → NoAssignment tokens → IsAny tokens tree rest → IsTighter 12 tokens tree rest
any_unassigned free (assigned x) = absurd (free refl)
any_unassigned free (unassigned also x) = x

abbrev pub Assigned : List ℕ → List Token → Tree → List Token → Type 0
Assigned word tokens tree rest = (value : Tree) × (tree ≡ assignment word value) × IsAny tokens value rest

any_assigned_here : {word : List ℕ} {tokens rest : List Token} {tree : Tree} → IsAny (name word ∷ (mark symbol.Assign ∷ tokens)) tree rest → Assigned word tokens tree rest
any_assigned_here (assigned {value = value} x) = (value, refl, x)
any_assigned_here (unassigned free x) = absurd (free refl)

pub any_assigned : {word : List ℕ} {tokens more rest : List Token} {tree : Tree} → tokens ≡ name word ∷ (mark symbol.Assign ∷ more) → IsAny tokens tree rest → Assigned word more tree rest
any_assigned {rest = rest} {tree = tree} cut x = any_assigned_here (subst (λ l. IsAny l tree rest) cut x)

-- an expression begins with an operand
abbrev pub Begun : ℕ → List Token → Tree → List Token → Type 0
Begun bound tokens tree rest = (left : Tree) × (middle : List Token) × IsOperand tokens left middle × GoesOn bound left middle tree rest

pub tighter_begun : {bound : ℕ} {tokens rest : List Token} {tree : Tree} → IsTighter bound tokens tree rest → Begun bound tokens tree rest
tighter_begun (begun {middle = middle} {left = left} x m) = (left, middle, x, m)

pub on_stopped : {bound : ℕ} {left tree : Tree} {tokens rest : List Token} → Stops bound tokens → GoesOn bound left tokens tree rest → (tree ≡ left) × (rest ≡ tokens)
on_stopped stops (stopped also) = (refl, refl)
on_stopped stops (operated below x m) = absurd (omega arith)
on_stopped stops (asked below x y m) = absurd (omega arith)

-- it goes on with an operator
abbrev pub Operated : ℕ → Operator → Tree → List Token → Tree → List Token → Type 0
Operated bound operator left tokens tree rest = (right : Tree) × (middle : List Token) × IsTighter (operator_level operator) tokens right middle × GoesOn bound (binary operator left right) middle tree rest

on_operated_here : {bound : ℕ} {operator : Operator} {left tree : Tree} {tokens rest : List Token} → operator_level operator < bound → GoesOn bound left (mark (symbol.Operator operator) ∷ tokens) tree rest → Operated bound operator left tokens tree rest
on_operated_here below (stopped stops) = absurd (omega arith)
on_operated_here below (operated {middle = middle} {right = right} also x m) = (right, middle, x, m)

pub on_operated : {bound : ℕ} {operator : Operator} {left tree : Tree} {tokens more rest : List Token} → operator_level operator < bound → tokens ≡ mark (symbol.Operator operator) ∷ more → GoesOn bound left tokens tree rest → Operated bound operator left more tree rest
on_operated {bound} {left = left} {tree = tree} {rest = rest} below cut x = on_operated_here below (subst (λ l. GoesOn bound left l tree rest) cut x)

-- it goes on with a question mark
abbrev pub Asked : ℕ → Tree → List Token → Tree → List Token → Type 0
Asked bound condition tokens tree rest = (chosen : Tree) × (other : Tree) × (middle : List Token) × (after : List Token) × IsAny tokens chosen (mark symbol.Colon ∷ middle) × IsTighter 12 middle other after × GoesOn bound (conditional condition chosen other) after tree rest

on_asked_here : {bound : ℕ} {condition tree : Tree} {tokens rest : List Token} → 11 < bound → GoesOn bound condition (mark symbol.Question ∷ tokens) tree rest → Asked bound condition tokens tree rest
on_asked_here below (stopped stops) = absurd (omega arith)
on_asked_here below (asked {middle = middle} {after = after} {chosen = chosen} {other = other} also x y m) = (chosen, other, middle, after, x, y, m)

pub on_asked : {bound : ℕ} {condition tree : Tree} {tokens more rest : List Token} → 11 < bound → tokens ≡ mark symbol.Question ∷ more → GoesOn bound condition tokens tree rest → Asked bound condition more tree rest
on_asked {bound} {condition = condition} {tree = tree} {rest = rest} below cut x = on_asked_here below (subst (λ l. GoesOn bound condition l tree rest) cut x)

operand_constant_here : {word : List ℕ} {tokens rest : List Token} {tree : Tree} → IsOperand (number word ∷ tokens) tree rest → (tree ≡ constant word) × (rest ≡ tokens)
operand_constant_here one_constant = (refl, refl)

pub operand_constant : {word : List ℕ} {tokens more rest : List Token} {tree : Tree} → tokens ≡ number word ∷ more → IsOperand tokens tree rest → (tree ≡ constant word) × (rest ≡ more)
operand_constant {rest = rest} {tree = tree} cut x = operand_constant_here (subst (λ l. IsOperand l tree rest) cut x)

operand_variable_here : {word : List ℕ} {tokens rest : List Token} {tree : Tree} → IsOperand (name word ∷ tokens) tree rest → (tree ≡ variable word) × (rest ≡ tokens)
operand_variable_here one_variable = (refl, refl)

pub operand_variable : {word : List ℕ} {tokens more rest : List Token} {tree : Tree} → tokens ≡ name word ∷ more → IsOperand tokens tree rest → (tree ≡ variable word) × (rest ≡ more)
operand_variable {rest = rest} {tree = tree} cut x = operand_variable_here (subst (λ l. IsOperand l tree rest) cut x)

abbrev pub Parenthesized : List Token → Tree → List Token → Type 0
Parenthesized tokens tree rest = (inner : Tree) × (tree ≡ parenthesized inner) × IsAny tokens inner (mark symbol.CloseParen ∷ rest)

operand_parenthesized_here : {tokens rest : List Token} {tree : Tree} → IsOperand (mark symbol.OpenParen ∷ tokens) tree rest → Parenthesized tokens tree rest
operand_parenthesized_here (one_parenthesized {inner = inner} x) = (inner, refl, x)
operand_parenthesized_here (one_prefixed sign x) = cc

pub operand_parenthesized : {tokens more rest : List Token} {tree : Tree} → tokens ≡ mark symbol.OpenParen ∷ more → IsOperand tokens tree rest → Parenthesized more tree rest
operand_parenthesized {rest = rest} {tree = tree} cut x = operand_parenthesized_here (subst (λ l. IsOperand l tree rest) cut x)

abbrev pub Prefixed : Prefix → List Token → Tree → List Token → Type 0
Prefixed operator tokens tree rest = (inner : Tree) × (tree ≡ prefixed operator inner) × IsOperand tokens inner rest

same_prefix : {operator other : Prefix} → ◌≡◌ {A = Option Prefix} (Some operator) (Some other) → operator ≡ other
same_prefix e = cc

operand_prefixed_here : {sign : Symbol} {operator : Prefix} {tokens rest : List Token} {tree : Tree} → prefix_of sign ≡ Some operator → IsOperand (mark sign ∷ tokens) tree rest → Prefixed operator tokens tree rest
operand_prefixed_here is (one_parenthesized x) = cc
operand_prefixed_here {operator = operator} is (one_prefixed {operator = other} {inner = inner} sign x) = (inner, subst (λ o. prefixed o inner ≡ prefixed operator inner) (same_prefix (sym is ∙ sign)) refl, x)

pub operand_prefixed : {sign : Symbol} {operator : Prefix} {tokens more rest : List Token} {tree : Tree} → prefix_of sign ≡ Some operator → tokens ≡ mark sign ∷ more → IsOperand tokens tree rest → Prefixed operator more tree rest
operand_prefixed {rest = rest} {tree = tree} is cut x = operand_prefixed_here is (subst (λ l. IsOperand l tree rest) cut x)
