-- How an expression that is read so far takes what comes next: a new operand goes as deep to the right as it binds.
use Rattle.std.proofs.Common.{◌≡◌, ℕ, ◌-◌, ◌<◌, ◌≤◌, List, ◌∷◌, ◌++◌, refl, sym, ap, ◌∙◌, arith, inl, inr, lit≤}
use Rattle.std.proofs.lemmas.List.{append_assoc}
use Rattle.std.proofs.lemmas.Bool.{cases_lt}
use Rattle.sh_arith.specs.declared.operators.Operator.{Operator}
use Rattle.sh_arith.specs.declared.operators.Operator.TheVariants as operator
use Rattle.sh_arith.specs.declared.tokens.Symbol.TheVariants as symbol
use Rattle.sh_arith.specs.Tokens.{Token, name, mark}
use Rattle.sh_arith.specs.Trees.{Tree, constant, variable, parenthesized, prefixed, binary, conditional, assignment, operator_level, level, spelled, IsExpression}

pub operator_bounds : (o : Operator) → (1 ≤ operator_level o) × (operator_level o ≤ 10)
operator_bounds operator.Multiply = (lit≤ tt, lit≤ tt)
operator_bounds operator.Divide = (lit≤ tt, lit≤ tt)
operator_bounds operator.Remainder = (lit≤ tt, lit≤ tt)
operator_bounds operator.Add = (lit≤ tt, lit≤ tt)
operator_bounds operator.Subtract = (lit≤ tt, lit≤ tt)
operator_bounds operator.ShiftLeft = (lit≤ tt, lit≤ tt)
operator_bounds operator.ShiftRight = (lit≤ tt, lit≤ tt)
operator_bounds operator.Less = (lit≤ tt, lit≤ tt)
operator_bounds operator.LessOrEqual = (lit≤ tt, lit≤ tt)
operator_bounds operator.Greater = (lit≤ tt, lit≤ tt)
operator_bounds operator.GreaterOrEqual = (lit≤ tt, lit≤ tt)
operator_bounds operator.Equal = (lit≤ tt, lit≤ tt)
operator_bounds operator.NotEqual = (lit≤ tt, lit≤ tt)
operator_bounds operator.BitAnd = (lit≤ tt, lit≤ tt)
operator_bounds operator.BitXor = (lit≤ tt, lit≤ tt)
operator_bounds operator.BitOr = (lit≤ tt, lit≤ tt)
operator_bounds operator.And = (lit≤ tt, lit≤ tt)
operator_bounds operator.Or = (lit≤ tt, lit≤ tt)

-- an expression of these tokens, no looser than `limit` where the one before and the operator aren't
pub record Written (tokens : List Token) (Bounded : ℕ → Type 0) : Type 0 where
  pub tree : Tree
  pub spelling : spelled tree ≡ tokens
  pub expression : IsExpression tree
  pub bounded : (limit : ℕ) → Bounded limit → level tree ≤ limit

abbrev pub Joined : Operator → Tree → Tree → Type 0
Joined o before operand = Written (spelled before ++ mark (symbol.Operator o) ∷ spelled operand) (λ limit. (level before ≤ limit) × (operator_level o ≤ limit))

joined_whole : (o : Operator) (before operand : Tree) → level before ≤ operator_level o → level operand ≤ 0 → IsExpression before → IsExpression operand → Joined o before operand
joined_whole o before operand looser tight h k = record {
  tree = binary o before operand;
  spelling = refl;
  expression = (looser, omega (arith, (operator_bounds o).0), h, k);
  bounded = λ limit within. within.1;
}

under_whole : (o : Operator) (n : ℕ) → n ≤ 0 → n ≤ operator_level o
under_whole o n h = omega arith

-- an operator and an operand after an expression make one
pub joined : (o : Operator) (before operand : Tree) → level operand ≤ 0 → IsExpression before → IsExpression operand → Joined o before operand
joined o (constant word) operand tight h k = joined_whole o (constant word) operand (under_whole o 0 (lit≤ tt)) tight h k
joined o (variable word) operand tight h k = joined_whole o (variable word) operand (under_whole o 0 (lit≤ tt)) tight h k
joined o (parenthesized inner) operand tight h k = joined_whole o (parenthesized inner) operand (under_whole o 0 (lit≤ tt)) tight h k
joined o (prefixed prefix inner) operand tight h k = joined_whole o (prefixed prefix inner) operand (under_whole o 0 (lit≤ tt)) tight h k
joined o (binary p left right) operand tight h k =
    elim (cases_lt (operator_level o) (operator_level p)) [
      | inl tighter ↦
          let deep = joined o right operand tight h.3 k in
          let below : level deep.tree < operator_level p = omega (arith, deep.bounded (operator_level p - 1) (omega arith, omega arith)) in
          record {
            tree = binary p left deep.tree;
            spelling = ap (λ l. spelled left ++ mark (symbol.Operator p) ∷ l) deep.spelling ∙ sym (append_assoc (spelled left) (mark (symbol.Operator p) ∷ spelled right) (mark (symbol.Operator o) ∷ spelled operand));
            expression = (h.0, below, h.2, deep.expression);
            bounded = λ limit within. within.0;
          }
      | inr looser ↦ joined_whole o (binary p left right) operand looser tight h k
    ]
joined o (conditional condition chosen last) operand tight h k =
    let deep = joined o last operand tight h.4 k in
    let after = mark symbol.Colon ∷ spelled last in
    let added = mark (symbol.Operator o) ∷ spelled operand in
    record {
      tree = conditional condition chosen deep.tree;
      spelling =
          ap (λ l. spelled condition ++ mark symbol.Question ∷ (spelled chosen ++ mark symbol.Colon ∷ l)) deep.spelling
          ∙ ap (λ l. spelled condition ++ mark symbol.Question ∷ l) (sym (append_assoc (spelled chosen) after added))
          ∙ sym (append_assoc (spelled condition) (mark symbol.Question ∷ (spelled chosen ++ after)) added);
      expression = (h.0, deep.bounded 11 (h.1, omega (arith, (operator_bounds o).1)), h.2, h.3, deep.expression);
      bounded = λ limit within. within.0;
    }
joined o (assignment word value) operand tight h k =
    let deep = joined o value operand tight h k in
    record {
      tree = assignment word deep.tree;
      spelling = ap (λ l. name word ∷ (mark symbol.Assign ∷ l)) deep.spelling;
      expression = deep.expression;
      bounded = λ limit within. within.0;
    }

abbrev pub Asked : Tree → Tree → Tree → Type 0
Asked before chosen other = Written (spelled before ++ mark symbol.Question ∷ (spelled chosen ++ mark symbol.Colon ∷ spelled other)) (λ limit. (level before ≤ limit) × (11 ≤ limit))

asked_whole : (before chosen other : Tree) → level before ≤ 10 → level other ≤ 11 → IsExpression before → IsExpression chosen → IsExpression other → Asked before chosen other
asked_whole before chosen other tighter last h k m = record {
  tree = conditional before chosen other;
  spelling = refl;
  expression = (tighter, last, h, k, m);
  bounded = λ limit within. within.1;
}

-- a `?`, an expression, a `:` and an operand after an expression make one
pub asked : (before chosen other : Tree) → level other ≤ 0 → IsExpression before → IsExpression chosen → IsExpression other → Asked before chosen other
asked (constant word) chosen other tight h k m = asked_whole (constant word) chosen other (lit≤ tt) (omega arith) h k m
asked (variable word) chosen other tight h k m = asked_whole (variable word) chosen other (lit≤ tt) (omega arith) h k m
asked (parenthesized inner) chosen other tight h k m = asked_whole (parenthesized inner) chosen other (lit≤ tt) (omega arith) h k m
asked (prefixed prefix inner) chosen other tight h k m = asked_whole (prefixed prefix inner) chosen other (lit≤ tt) (omega arith) h k m
asked (binary p left right) chosen other tight h k m = asked_whole (binary p left right) chosen other (operator_bounds p).1 (omega arith) h k m
asked (conditional condition first last) chosen other tight h k m =
    let deep = asked last chosen other tight h.4 k m in
    let after = mark symbol.Colon ∷ spelled last in
    let added = mark symbol.Question ∷ (spelled chosen ++ mark symbol.Colon ∷ spelled other) in
    record {
      tree = conditional condition first deep.tree;
      spelling =
          ap (λ l. spelled condition ++ mark symbol.Question ∷ (spelled first ++ mark symbol.Colon ∷ l)) deep.spelling
          ∙ ap (λ l. spelled condition ++ mark symbol.Question ∷ l) (sym (append_assoc (spelled first) after added))
          ∙ sym (append_assoc (spelled condition) (mark symbol.Question ∷ (spelled first ++ after)) added);
      expression = (h.0, deep.bounded 11 (h.1, lit≤ tt), h.2, h.3, deep.expression);
      bounded = λ limit within. within.0;
    }
asked (assignment word value) chosen other tight h k m =
    let deep = asked value chosen other tight h k m in
    record {
      tree = assignment word deep.tree;
      spelling = ap (λ l. name word ∷ (mark symbol.Assign ∷ l)) deep.spelling;
      expression = deep.expression;
      bounded = λ limit within. within.0;
    }
