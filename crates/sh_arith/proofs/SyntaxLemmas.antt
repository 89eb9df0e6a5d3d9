-- The tokens of an expression are accepted.
use Rattle.std.proofs.Common.{◌≡◌, ◌≤◌, List, [], ◌∷◌, ◌++◌, refl, ap, ◌∙◌, arith}
use Rattle.std.proofs.lemmas.List.{append_assoc}
use Rattle.sh_arith.specs.declared.operators.Prefix.TheVariants as prefix
use Rattle.sh_arith.specs.declared.tokens.Symbol.TheVariants as symbol
use Rattle.sh_arith.specs.declared.syntax.Expected.TheVariants as expected
use Rattle.sh_arith.specs.declared.syntax.Bracket.{Bracket}
use Rattle.sh_arith.specs.declared.syntax.Bracket.TheVariants as bracket
use Rattle.sh_arith.specs.Tokens.{Token, number, name, mark}
use Rattle.sh_arith.specs.Trees.{Tree, constant, variable, parenthesized, prefixed, binary, conditional, assignment, level, spelled, IsExpression}
use Rattle.sh_arith.specs.Syntax.{accepts}
use Rattle.sh_arith.specs.Parsing.{NotAssigned}
use Rattle.sh_arith.proofs.TreeLemmas.{operator_bounds}

after_name : (brackets : List Bracket) (rest : List Token) → NotAssigned rest → accepts expected.AfterName brackets rest ≡ accepts expected.AfterOperand brackets rest
after_name [] [] h = refl
after_name (b ∷ bs) [] h = refl
after_name brackets (number word ∷ rest) h = refl
after_name brackets (name word ∷ rest) h = refl
after_name brackets (mark (symbol.Operator o) ∷ rest) h = refl
after_name brackets (mark symbol.Complement ∷ rest) h = refl
after_name brackets (mark symbol.Not ∷ rest) h = refl
after_name brackets (mark symbol.Question ∷ rest) h = refl
after_name brackets (mark symbol.Colon ∷ rest) h = refl
after_name brackets (mark symbol.Assign ∷ rest) h = absurd (h refl)
after_name brackets (mark symbol.OpenParen ∷ rest) h = refl
after_name brackets (mark symbol.CloseParen ∷ rest) h = refl

mutual
  pub accepts_any : (tree : Tree) → IsExpression tree → (brackets : List Bracket) (rest : List Token) → NotAssigned rest → accepts expected.Anything brackets (spelled tree ++ rest) ≡ accepts expected.AfterOperand brackets rest
  accepts_any (constant word) h brackets rest free = refl
  accepts_any (variable word) h brackets rest free = after_name brackets rest free
  accepts_any (parenthesized inner) h brackets rest free =
      ap (λ l. accepts expected.Anything (bracket.Paren ∷ brackets) l) (append_assoc (spelled inner) (mark symbol.CloseParen ∷ []) rest)
      ∙ accepts_any inner h (bracket.Paren ∷ brackets) (mark symbol.CloseParen ∷ rest) (λ e. cc)
  accepts_any (prefixed prefix.Plus inner) h brackets rest free = accepts_operand inner h.1 (omega arith) brackets rest
  accepts_any (prefixed prefix.Minus inner) h brackets rest free = accepts_operand inner h.1 (omega arith) brackets rest
  accepts_any (prefixed prefix.Complement inner) h brackets rest free = accepts_operand inner h.1 (omega arith) brackets rest
  accepts_any (prefixed prefix.Not inner) h brackets rest free = accepts_operand inner h.1 (omega arith) brackets rest
  accepts_any (binary o left right) h brackets rest free =
      ap (λ l. accepts expected.Anything brackets l) (append_assoc (spelled left) (mark (symbol.Operator o) ∷ spelled right) rest)
      ∙ accepts_any left h.2 brackets (mark (symbol.Operator o) ∷ (spelled right ++ rest)) (λ e. cc)
      ∙ accepts_operand right h.3 (omega (arith, (operator_bounds o).1)) brackets rest
  accepts_any (conditional condition chosen other) h brackets rest free =
      ap (λ l. accepts expected.Anything brackets l) (append_assoc (spelled condition) (mark symbol.Question ∷ (spelled chosen ++ mark symbol.Colon ∷ spelled other)) rest)
      ∙ accepts_any condition h.2 brackets (mark symbol.Question ∷ ((spelled chosen ++ mark symbol.Colon ∷ spelled other) ++ rest)) (λ e. cc)
      ∙ ap (λ l. accepts expected.Anything (bracket.Question ∷ brackets) l) (append_assoc (spelled chosen) (mark symbol.Colon ∷ spelled other) rest)
      ∙ accepts_any chosen h.3 (bracket.Question ∷ brackets) (mark symbol.Colon ∷ (spelled other ++ rest)) (λ e. cc)
      ∙ accepts_operand other h.4 h.1 brackets rest
  accepts_any (assignment word value) h brackets rest free = accepts_any value h brackets rest free

  pub accepts_operand : (tree : Tree) → IsExpression tree → level tree ≤ 11 → (brackets : List Bracket) (rest : List Token) → accepts expected.Operand brackets (spelled tree ++ rest) ≡ accepts expected.AfterOperand brackets rest
  accepts_operand (constant word) h tight brackets rest = refl
  accepts_operand (variable word) h tight brackets rest = refl
  accepts_operand (parenthesized inner) h tight brackets rest =
      ap (λ l. accepts expected.Anything (bracket.Paren ∷ brackets) l) (append_assoc (spelled inner) (mark symbol.CloseParen ∷ []) rest)
      ∙ accepts_any inner h (bracket.Paren ∷ brackets) (mark symbol.CloseParen ∷ rest) (λ e. cc)
  accepts_operand (prefixed prefix.Plus inner) h tight brackets rest = accepts_operand inner h.1 (omega arith) brackets rest
  accepts_operand (prefixed prefix.Minus inner) h tight brackets rest = accepts_operand inner h.1 (omega arith) brackets rest
  accepts_operand (prefixed prefix.Complement inner) h tight brackets rest = accepts_operand inner h.1 (omega arith) brackets rest
  accepts_operand (prefixed prefix.Not inner) h tight brackets rest = accepts_operand inner h.1 (omega arith) brackets rest
  accepts_operand (binary o left right) h tight brackets rest =
      ap (λ l. accepts expected.Operand brackets l) (append_assoc (spelled left) (mark (symbol.Operator o) ∷ spelled right) rest)
      ∙ accepts_operand left h.2 (omega (arith, (operator_bounds o).1)) brackets (mark (symbol.Operator o) ∷ (spelled right ++ rest))
      ∙ accepts_operand right h.3 (omega (arith, (operator_bounds o).1)) brackets rest
  accepts_operand (conditional condition chosen other) h tight brackets rest =
      ap (λ l. accepts expected.Operand brackets l) (append_assoc (spelled condition) (mark symbol.Question ∷ (spelled chosen ++ mark symbol.Colon ∷ spelled other)) rest)
      ∙ accepts_operand condition h.2 (omega arith) brackets (mark symbol.Question ∷ ((spelled chosen ++ mark symbol.Colon ∷ spelled other) ++ rest))
      ∙ ap (λ l. accepts expected.Anything (bracket.Question ∷ brackets) l) (append_assoc (spelled chosen) (mark symbol.Colon ∷ spelled other) rest)
      ∙ accepts_any chosen h.3 (bracket.Question ∷ brackets) (mark symbol.Colon ∷ (spelled other ++ rest)) (λ e. cc)
      ∙ accepts_operand other h.4 h.1 brackets rest
  accepts_operand (assignment word value) h tight brackets rest = absurd (omega arith)
