-- Which tokens an expression may have in turn, as the check over them goes: what may come next, and what is open.
use Rattle.std.specs.Prelude.{Bool, true, false, List, [], ◌∷◌, Option, Some, None}
use Rattle.std.specs.Option.{option_map_or}
use Rattle.sh_arith.specs.declared.operators.Operator.TheVariants as operator
use Rattle.sh_arith.specs.declared.operators.Prefix.{Prefix}
use Rattle.sh_arith.specs.declared.operators.Prefix.TheVariants as prefix
use Rattle.sh_arith.specs.declared.tokens.Symbol.{Symbol}
use Rattle.sh_arith.specs.declared.tokens.Symbol.TheVariants as symbol
use Rattle.sh_arith.specs.declared.syntax.Expected.{Expected}
use Rattle.sh_arith.specs.declared.syntax.Expected.TheVariants as expected
use Rattle.sh_arith.specs.declared.syntax.Bracket.{Bracket}
use Rattle.sh_arith.specs.declared.syntax.Bracket.TheVariants as bracket
use Rattle.sh_arith.specs.Tokens.{Token, number, name, mark}

-- what is open, and what may come next
abbrev pub State : Type 0
State = Expected × List Bracket

-- the unary operator that a symbol is
abbrev pub prefix_of : Symbol → Option Prefix
prefix_of (symbol.Operator operator.Add) = Some prefix.Plus
prefix_of (symbol.Operator operator.Subtract) = Some prefix.Minus
prefix_of symbol.Complement = Some prefix.Complement
prefix_of symbol.Not = Some prefix.Not
prefix_of _ = None

-- a symbol where an operand is expected
abbrev pub begun : List Bracket → Symbol → Option State
begun open_brackets symbol.OpenParen = Some (expected.Anything, bracket.Paren ∷ open_brackets)
begun open_brackets other = option_map_or (λ _. Some (expected.Operand, open_brackets)) (prefix_of other) None

-- a closing symbol
abbrev pub closed_paren : List Bracket → Option State
closed_paren (bracket.Paren ∷ rest) = Some (expected.AfterOperand, rest)
closed_paren _ = None

abbrev pub closed_question : List Bracket → Option State
closed_question (bracket.Question ∷ rest) = Some (expected.Operand, rest)
closed_question _ = None

-- a symbol after an operand
abbrev pub continued : Option State → List Bracket → Symbol → Option State
continued assigned open_brackets (symbol.Operator operator) = Some (expected.Operand, open_brackets)
continued assigned open_brackets symbol.Question = Some (expected.Anything, bracket.Question ∷ open_brackets)
continued assigned open_brackets symbol.Colon = closed_question open_brackets
continued assigned open_brackets symbol.CloseParen = closed_paren open_brackets
continued assigned open_brackets symbol.Assign = assigned
continued assigned open_brackets _ = None

-- the state after a token
abbrev pub next_state : Expected → List Bracket → Token → Option State
next_state expected.Anything brackets (number word) = Some (expected.AfterOperand, brackets)
next_state expected.Anything brackets (name word) = Some (expected.AfterName, brackets)
next_state expected.Anything brackets (mark symbol) = begun brackets symbol
next_state expected.Operand brackets (number word) = Some (expected.AfterOperand, brackets)
next_state expected.Operand brackets (name word) = Some (expected.AfterOperand, brackets)
next_state expected.Operand brackets (mark symbol) = begun brackets symbol
next_state expected.AfterName brackets (mark symbol) = continued (Some (expected.Anything, brackets)) brackets symbol
next_state expected.AfterOperand brackets (mark symbol) = continued None brackets symbol
next_state _ brackets _ = None

-- the tokens may end here
abbrev pub may_end : Expected → List Bracket → Bool
may_end expected.AfterName [] = true
may_end expected.AfterOperand [] = true
may_end _ _ = false

-- the tokens are accepted from a state on
abbrev pub accepts : Expected → List Bracket → List Token → Bool
accepts expected brackets [] = may_end expected brackets
accepts expected brackets (token ∷ rest) = option_map_or (λ state. accepts state.0 state.1 rest) (next_state expected brackets token) false
