-- Expressions (XCU 2.6.4; ISO C 6.5, without `,`, `++`, `--` and the assignments other than `=`). An expression is a tree; it
-- is written by writing its parts in order, and each part binds tightly enough to stand where it does.
use Rattle.std.specs.Prelude.{◌≡◌, ℕ, ◌<◌, ◌≤◌, List, [], ◌∷◌, ◌++◌}
use Rattle.sh_arith.specs.declared.operators.Operator.{Operator}
use Rattle.sh_arith.specs.declared.operators.Operator.TheVariants as operator
use Rattle.sh_arith.specs.declared.operators.Prefix.{Prefix}
use Rattle.sh_arith.specs.declared.operators.Prefix.TheVariants as prefix
use Rattle.sh_arith.specs.declared.tokens.Symbol.TheVariants as symbol
use Rattle.sh_arith.specs.Tokens.{Token, number, name, mark}

-- an expression
pub data Tree : Type 0 where
  constant : List ℕ → Tree
  variable : List ℕ → Tree
  parenthesized : Tree → Tree
  prefixed : Prefix → Tree → Tree
  binary : Operator → Tree → Tree → Tree
  conditional : Tree → Tree → Tree → Tree
  assignment : List ℕ → Tree → Tree

-- how loosely an operator binds: 1 is the tightest
abbrev pub operator_level : Operator → ℕ
operator_level operator.Multiply = 1
operator_level operator.Divide = 1
operator_level operator.Remainder = 1
operator_level operator.Add = 2
operator_level operator.Subtract = 2
operator_level operator.ShiftLeft = 3
operator_level operator.ShiftRight = 3
operator_level operator.Less = 4
operator_level operator.LessOrEqual = 4
operator_level operator.Greater = 4
operator_level operator.GreaterOrEqual = 4
operator_level operator.Equal = 5
operator_level operator.NotEqual = 5
operator_level operator.BitAnd = 6
operator_level operator.BitXor = 7
operator_level operator.BitOr = 8
operator_level operator.And = 9
operator_level operator.Or = 10

-- how loosely an expression binds; 0 is an operand
abbrev pub level : Tree → ℕ
level (constant word) = 0
level (variable word) = 0
level (parenthesized inner) = 0
level (prefixed prefix inner) = 0
level (binary operator left right) = operator_level operator
level (conditional condition chosen other) = 11
level (assignment word value) = 12

-- how a unary operator is written
abbrev pub prefix_token : Prefix → Token
prefix_token prefix.Plus = mark (symbol.Operator operator.Add)
prefix_token prefix.Minus = mark (symbol.Operator operator.Subtract)
prefix_token prefix.Complement = mark symbol.Complement
prefix_token prefix.Not = mark symbol.Not

-- the tokens of an expression
abbrev pub spelled : Tree → List Token
spelled (constant word) = number word ∷ []
spelled (variable word) = name word ∷ []
spelled (parenthesized inner) = mark symbol.OpenParen ∷ (spelled inner ++ mark symbol.CloseParen ∷ [])
spelled (prefixed prefix inner) = prefix_token prefix ∷ spelled inner
spelled (binary operator left right) = spelled left ++ mark (symbol.Operator operator) ∷ spelled right
spelled (conditional condition chosen other) = spelled condition ++ mark symbol.Question ∷ (spelled chosen ++ mark symbol.Colon ∷ spelled other)
spelled (assignment word value) = name word ∷ (mark symbol.Assign ∷ spelled value)

-- each part of the expression binds tightly enough: binary operators group to the left, `?:` and `=` to the right
abbrev pub IsExpression : Tree → Type 0
IsExpression (constant word) = Unit {0}
IsExpression (variable word) = Unit {0}
IsExpression (parenthesized inner) = IsExpression inner
IsExpression (prefixed prefix inner) = (level inner ≤ 0) × IsExpression inner
IsExpression (binary operator left right) = (level left ≤ operator_level operator) × (level right < operator_level operator) × IsExpression left × IsExpression right
IsExpression (conditional condition chosen other) = (level condition ≤ 10) × (level other ≤ 11) × IsExpression condition × IsExpression chosen × IsExpression other
IsExpression (assignment word value) = IsExpression value

-- the tokens read as this expression
abbrev pub Reads : List Token → Tree → Type 0
Reads tokens tree = (tokens ≡ spelled tree) × IsExpression tree
