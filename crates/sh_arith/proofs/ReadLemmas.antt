-- Tokens that are accepted are those of an expression.
use Rattle.std.proofs.Common.{◌≡◌, ℕ, ◌≤◌, Bool, true, false, List, [], ◌∷◌, ◌++◌, refl, sym, ap, ◌∙◌, Some, None, lit≤}
use Rattle.std.proofs.lemmas.List.{append_assoc, append-nil}
use Rattle.sh_arith.specs.declared.operators.Operator.{Operator}
use Rattle.sh_arith.specs.declared.operators.Operator.TheVariants as operator
use Rattle.sh_arith.specs.declared.operators.Prefix.{Prefix}
use Rattle.sh_arith.specs.declared.operators.Prefix.TheVariants as prefix
use Rattle.sh_arith.specs.declared.tokens.Symbol.{Symbol}
use Rattle.sh_arith.specs.declared.tokens.Symbol.TheVariants as symbol
use Rattle.sh_arith.specs.declared.syntax.Expected.TheVariants as expected
use Rattle.sh_arith.specs.declared.syntax.Bracket.{Bracket}
use Rattle.sh_arith.specs.declared.syntax.Bracket.TheVariants as bracket
use Rattle.sh_arith.specs.Tokens.{Token, number, name, mark}
use Rattle.sh_arith.specs.Trees.{Tree, constant, variable, parenthesized, prefixed, assignment, level, prefix_token, spelled, IsExpression, Reads}
use Rattle.std.specs.Prelude.{Option}
use Rattle.std.specs.Option.{option_map_or}
use Rattle.sh_arith.specs.Syntax.{State, accepts, begun, continued}
use Rattle.sh_arith.proofs.TreeLemmas.{joined, asked}
use Rattle.sh_arith.proofs.SyntaxLemmas.{accepts_any}

-- the tokens are those of an expression
pub record Full (tokens : List Token) : Type 0 where
  pub tree : Tree
  pub spelling : spelled tree ≡ tokens
  pub expression : IsExpression tree

along : {a b : List Token} → a ≡ b → Full a → Full b
along e full = record { tree = full.tree; spelling = full.spelling ∙ e; expression = full.expression }

itself : (tree : Tree) → IsExpression tree → Full (spelled tree)
itself tree h = record { tree = tree; spelling = refl; expression = h }

-- an operand, or an expression of any kind, makes one with the tokens before it
abbrev OperandHole : List Token → Type 0
OperandHole before = (tree : Tree) → IsExpression tree → level tree ≤ 0 → Full (before ++ spelled tree)

abbrev AnyHole : List Token → Type 0
AnyHole before = (tree : Tree) → IsExpression tree → Full (before ++ spelled tree)

-- what was read before the innermost open bracket's inside
abbrev Around : List Bracket → List Token → Type 0
Around [] read = read ≡ []
Around (bracket.Paren ∷ rest) read = (outer : List Token) × (before : List Token) × (read ≡ outer ++ (before ++ mark symbol.OpenParen ∷ [])) × OperandHole before × Around rest outer
Around (bracket.Question ∷ rest) read = (outer : List Token) × (condition : Tree) × (read ≡ outer ++ (spelled condition ++ mark symbol.Question ∷ [])) × IsExpression condition × Around rest outer

-- from each state on, tokens that are accepted make an expression with those before
record Makes (tokens : List Token) : Type 0 where
  any : (brackets : List Bracket) (read before : List Token) → Around brackets read → AnyHole before → accepts expected.Anything brackets tokens ≡ true → Full (read ++ (before ++ tokens))
  operand : (brackets : List Bracket) (read before : List Token) → Around brackets read → OperandHole before → accepts expected.Operand brackets tokens ≡ true → Full (read ++ (before ++ tokens))
  after : (brackets : List Bracket) (read : List Token) (tree : Tree) → Around brackets read → IsExpression tree → accepts expected.AfterOperand brackets tokens ≡ true → Full (read ++ (spelled tree ++ tokens))
  named : (brackets : List Bracket) (read before : List Token) (word : List ℕ) → Around brackets read → AnyHole before → accepts expected.AfterName brackets tokens ≡ true → Full (read ++ (before ++ (name word ∷ tokens)))

module _ (tokens : List Token) (rest : Makes tokens) where
  -- a unary operator
  after_prefix : (p : Prefix) (brackets : List Bracket) (read before : List Token) → Around brackets read → OperandHole before → accepts expected.Operand brackets tokens ≡ true → Full (read ++ (before ++ (prefix_token p ∷ tokens)))
  after_prefix p brackets read before around hole ok =
      along (ap (λ l. read ++ l) (append_assoc before (prefix_token p ∷ []) tokens))
      (rest.operand brackets read (before ++ prefix_token p ∷ []) around
      (λ tree h tight. along (sym (append_assoc before (prefix_token p ∷ []) (spelled tree))) (hole (prefixed p tree) (tight, h) (lit≤ tt))) ok)

  -- an opening parenthesis
  after_open : (brackets : List Bracket) (read before : List Token) → Around brackets read → OperandHole before → accepts expected.Anything (bracket.Paren ∷ brackets) tokens ≡ true → Full (read ++ (before ++ (mark symbol.OpenParen ∷ tokens)))
  after_open brackets read before around hole ok =
      along (append_assoc read (before ++ mark symbol.OpenParen ∷ []) tokens ∙ ap (λ l. read ++ l) (append_assoc before (mark symbol.OpenParen ∷ []) tokens))
      (rest.any (bracket.Paren ∷ brackets) (read ++ (before ++ mark symbol.OpenParen ∷ [])) [] (read, before, refl, hole, around) itself ok)

  -- an operand
  after_full : (brackets : List Bracket) (read before : List Token) (token : Token) → Around brackets read → Full (before ++ token ∷ []) → accepts expected.AfterOperand brackets tokens ≡ true → Full (read ++ (before ++ (token ∷ tokens)))
  after_full brackets read before token around full ok =
      along (ap (λ l. read ++ (l ++ tokens)) full.spelling ∙ ap (λ l. read ++ l) (append_assoc before (token ∷ []) tokens))
      (rest.after brackets read full.tree around full.expression ok)

  -- a binary operator
  after_operator : (o : Operator) (brackets : List Bracket) (read : List Token) (tree : Tree) → Around brackets read → IsExpression tree → accepts expected.Operand brackets tokens ≡ true → Full (read ++ (spelled tree ++ (mark (symbol.Operator o) ∷ tokens)))
  after_operator o brackets read tree around h ok =
      along (ap (λ l. read ++ l) (append_assoc (spelled tree) (mark (symbol.Operator o) ∷ []) tokens))
      (rest.operand brackets read (spelled tree ++ mark (symbol.Operator o) ∷ []) around
      (λ u k tight. let deep = joined o tree u tight h k in record { tree = deep.tree; spelling = deep.spelling ∙ sym (append_assoc (spelled tree) (mark (symbol.Operator o) ∷ []) (spelled u)); expression = deep.expression }) ok)

  -- a question mark
  after_question : (brackets : List Bracket) (read : List Token) (tree : Tree) → Around brackets read → IsExpression tree → accepts expected.Anything (bracket.Question ∷ brackets) tokens ≡ true → Full (read ++ (spelled tree ++ (mark symbol.Question ∷ tokens)))
  after_question brackets read tree around h ok =
      along (append_assoc read (spelled tree ++ mark symbol.Question ∷ []) tokens ∙ ap (λ l. read ++ l) (append_assoc (spelled tree) (mark symbol.Question ∷ []) tokens))
      (rest.any (bracket.Question ∷ brackets) (read ++ (spelled tree ++ mark symbol.Question ∷ [])) [] (read, tree, refl, h, around) itself ok)

  -- a colon, which ends what a question mark opened
  after_colon : (brackets : List Bracket) (read : List Token) (tree : Tree) → Around (bracket.Question ∷ brackets) read → IsExpression tree → accepts expected.Operand brackets tokens ≡ true → Full (read ++ (spelled tree ++ (mark symbol.Colon ∷ tokens)))
  after_colon brackets read tree (outer, condition, is, k, around) h ok =
      let before = spelled condition ++ mark symbol.Question ∷ (spelled tree ++ mark symbol.Colon ∷ []) in
      let regrouped : outer ++ (before ++ tokens) ≡ (outer ++ (spelled condition ++ mark symbol.Question ∷ [])) ++ (spelled tree ++ (mark symbol.Colon ∷ tokens)) = simp append_assoc in
      along (regrouped ∙ ap (λ l. l ++ (spelled tree ++ (mark symbol.Colon ∷ tokens))) (sym is))
      (rest.operand brackets outer before around
      (λ u m tight. let deep = asked condition tree u tight k h m in record { tree = deep.tree; spelling = deep.spelling ∙ sym (simp append_assoc); expression = deep.expression }) ok)

  -- a closing parenthesis
  after_close : (brackets : List Bracket) (read : List Token) (tree : Tree) → Around (bracket.Paren ∷ brackets) read → IsExpression tree → accepts expected.AfterOperand brackets tokens ≡ true → Full (read ++ (spelled tree ++ (mark symbol.CloseParen ∷ tokens)))
  after_close brackets read tree (outer, before, is, hole, around) h ok =
      let full = hole (parenthesized tree) h (lit≤ tt) in
      let regrouped : outer ++ ((before ++ spelled (parenthesized tree)) ++ tokens) ≡ (outer ++ (before ++ mark symbol.OpenParen ∷ [])) ++ (spelled tree ++ (mark symbol.CloseParen ∷ tokens)) = simp append_assoc in
      along (ap (λ l. outer ++ (l ++ tokens)) full.spelling ∙ regrouped ∙ ap (λ l. l ++ (spelled tree ++ (mark symbol.CloseParen ∷ tokens))) (sym is))
      (rest.after brackets outer full.tree around full.expression ok)

  -- a symbol where an operand is expected
  begun_makes : (brackets : List Bracket) (read before : List Token) (s : Symbol) → Around brackets read → OperandHole before → option_map_or (λ state. accepts state.0 state.1 tokens) (begun brackets s) false ≡ true → Full (read ++ (before ++ (mark s ∷ tokens)))
  begun_makes brackets read before symbol.OpenParen around hole ok = after_open brackets read before around hole ok
  begun_makes brackets read before symbol.Complement around hole ok = after_prefix prefix.Complement brackets read before around hole ok
  begun_makes brackets read before symbol.Not around hole ok = after_prefix prefix.Not brackets read before around hole ok
  begun_makes brackets read before (symbol.Operator operator.Add) around hole ok = after_prefix prefix.Plus brackets read before around hole ok
  begun_makes brackets read before (symbol.Operator operator.Subtract) around hole ok = after_prefix prefix.Minus brackets read before around hole ok
  begun_makes brackets read before _ around hole ok = cc

  -- a symbol after an operand
  continued_makes : (assigned : Option State) (brackets : List Bracket) (read : List Token) (tree : Tree) (s : Symbol) → Around brackets read → IsExpression tree → (option_map_or (λ state. accepts state.0 state.1 tokens) assigned false ≡ true → Full (read ++ (spelled tree ++ (mark symbol.Assign ∷ tokens)))) → option_map_or (λ state. accepts state.0 state.1 tokens) (continued assigned brackets s) false ≡ true → Full (read ++ (spelled tree ++ (mark s ∷ tokens)))
  continued_makes assigned brackets read tree (symbol.Operator o) around h free ok = after_operator o brackets read tree around h ok
  continued_makes assigned brackets read tree symbol.Question around h free ok = after_question brackets read tree around h ok
  continued_makes assigned (bracket.Question ∷ brackets) read tree symbol.Colon around h free ok = after_colon brackets read tree around h ok
  continued_makes assigned (bracket.Paren ∷ brackets) read tree symbol.CloseParen around h free ok = after_close brackets read tree around h ok
  continued_makes assigned brackets read tree symbol.Assign around h free ok = free ok
  continued_makes assigned brackets read tree s around h free ok = cc

  -- `=` after a name
  after_assign : (brackets : List Bracket) (read before : List Token) (word : List ℕ) → Around brackets read → AnyHole before → (full : Full (before ++ name word ∷ [])) → accepts expected.Anything brackets tokens ≡ true → Full (read ++ (spelled full.tree ++ (mark symbol.Assign ∷ tokens)))
  after_assign brackets read before word around hole full ok =
      let assigned = before ++ (name word ∷ (mark symbol.Assign ∷ [])) in
      let regrouped : read ++ (assigned ++ tokens) ≡ read ++ ((before ++ name word ∷ []) ++ (mark symbol.Assign ∷ tokens)) = simp append_assoc in
      along (regrouped ∙ ap (λ l. read ++ (l ++ (mark symbol.Assign ∷ tokens))) (sym full.spelling))
      (rest.any brackets read assigned around (λ tree h. along (sym (append_assoc before (name word ∷ (mark symbol.Assign ∷ [])) (spelled tree))) (hole (assignment word tree) h)) ok)

  one_more_makes : (token : Token) → Makes (token ∷ tokens)
  one_more_makes (number word) = record {
    any = λ brackets read before around hole ok. after_full brackets read before (number word) around (hole (constant word) tt) ok;
    operand = λ brackets read before around hole ok. after_full brackets read before (number word) around (hole (constant word) tt (lit≤ tt)) ok;
    after = λ brackets read tree around h ok. cc;
    named = λ brackets read before word around hole ok. cc;
  }
  one_more_makes (name word) = record {
    any = λ brackets read before around hole ok. rest.named brackets read before word around hole ok;
    operand = λ brackets read before around hole ok. after_full brackets read before (name word) around (hole (variable word) tt (lit≤ tt)) ok;
    after = λ brackets read tree around h ok. cc;
    named = λ brackets read before word around hole ok. cc;
  }
  one_more_makes (mark s) = record {
    any = λ brackets read before around hole ok. begun_makes brackets read before s around (λ tree h tight. hole tree h) ok;
    operand = λ brackets read before around hole ok. begun_makes brackets read before s around hole ok;
    after = λ brackets read tree around h ok. continued_makes None brackets read tree s around h (λ bad. cc) ok;
    named = λ brackets read before word around hole ok.
        let full = hole (variable word) tt in
        along (ap (λ l. read ++ (l ++ (mark s ∷ tokens))) full.spelling ∙ ap (λ l. read ++ l) (append_assoc before (name word ∷ []) (mark s ∷ tokens)))
        (continued_makes (Some (expected.Anything, brackets)) brackets read full.tree s around full.expression (after_assign brackets read before word around hole full) ok);
  }

ends_anything : (brackets : List Bracket) (read before : List Token) → Around brackets read → AnyHole before → accepts expected.Anything brackets [] ≡ true → Full (read ++ (before ++ []))
ends_anything [] read before around hole ok = cc
ends_anything (b ∷ bs) read before around hole ok = cc

ends_operand : (brackets : List Bracket) (read before : List Token) → Around brackets read → OperandHole before → accepts expected.Operand brackets [] ≡ true → Full (read ++ (before ++ []))
ends_operand [] read before around hole ok = cc
ends_operand (b ∷ bs) read before around hole ok = cc

ends_after : (brackets : List Bracket) (read : List Token) (tree : Tree) → Around brackets read → IsExpression tree → accepts expected.AfterOperand brackets [] ≡ true → Full (read ++ (spelled tree ++ []))
ends_after [] read tree around h ok = along (sym (append-nil (spelled tree)) ∙ ap (λ l. l ++ (spelled tree ++ [])) (sym around)) (itself tree h)
ends_after (b ∷ bs) read tree around h ok = cc

ends_named : (brackets : List Bracket) (read before : List Token) (word : List ℕ) → Around brackets read → AnyHole before → accepts expected.AfterName brackets [] ≡ true → Full (read ++ (before ++ (name word ∷ [])))
ends_named [] read before word around hole ok = along (ap (λ l. l ++ (before ++ (name word ∷ []))) (sym around)) (hole (variable word) tt)
ends_named (b ∷ bs) read before word around hole ok = cc

-- the end
none_makes : Makes []
none_makes = record {
  any = ends_anything;
  operand = ends_operand;
  after = ends_after;
  named = ends_named;
}

-- accepted tokens make an expression
makes : (tokens : List Token) → Makes tokens
makes [] = none_makes
makes (token ∷ tokens) = one_more_makes tokens (makes tokens) token

pub accepted_reads : (tokens : List Token) → accepts expected.Anything [] tokens ≡ true → Full tokens
accepted_reads tokens ok = (makes tokens).any [] [] [] refl itself ok

-- the tokens that are accepted are exactly those of an expression
pub accepted_exactly : (tokens : List Token) (holds : Bool) → holds ≡ accepts expected.Anything [] tokens → (holds ≡ true → (tree : Tree) × Reads tokens tree) × (((tree : Tree) × Reads tokens tree) → holds ≡ true)
accepted_exactly tokens holds is = (
  λ yes_it_holds. let full = accepted_reads tokens (sym is ∙ yes_it_holds) in (full.tree, (sym full.spelling, full.expression)),
  λ reads. is ∙ ap (accepts expected.Anything []) (reads.1.0 ∙ sym (append-nil (spelled reads.0))) ∙ accepts_any reads.0 reads.1.1 [] [] tt,
)
