-- Each expression is read so, and no other.
use Rattle.std.proofs.Common.{◌≡◌, ℕ, ◌<◌, ◌≤◌, List, [], ◌∷◌, ◌++◌, refl, sym, ◌∙◌, subst, arith, lit≤}
use Rattle.std.proofs.lemmas.List.{append_assoc, append-nil}
use Rattle.sh_arith.specs.declared.operators.Operator.{Operator}
use Rattle.sh_arith.specs.declared.operators.Prefix.{Prefix}
use Rattle.sh_arith.specs.declared.operators.Prefix.TheVariants as prefix
use Rattle.sh_arith.specs.declared.tokens.Symbol.TheVariants as symbol
use Rattle.sh_arith.specs.Tokens.{Token, number, name, mark}
use Rattle.sh_arith.specs.Trees.{Tree, constant, variable, parenthesized, prefixed, binary, conditional, assignment, operator_level, level, spelled, IsExpression, Reads}
use Rattle.sh_arith.specs.Parsing.{NotAssigned, NoAssignment, Stops, IsAny, assigned, unassigned, IsTighter, begun, IsOperand, one_constant, one_variable, one_parenthesized, one_prefixed, GoesOn, stopped, operated, asked}
use Rattle.sh_arith.proofs.TreeLemmas.{operator_bounds}

-- how tight the last part of an expression binds: what binds tighter would go on with it
abbrev last_bound : Tree → ℕ
last_bound (binary operator left right) = operator_level operator
last_bound (conditional condition chosen other) = 12
last_bound _ = 0

stops_weaker : (a b : ℕ) → a ≤ b → (tokens : List Token) → Stops b tokens → Stops a tokens
stops_weaker a b h [] stops = tt
stops_weaker a b h (number word ∷ rest) stops = tt
stops_weaker a b h (name word ∷ rest) stops = tt
stops_weaker a b h (mark (symbol.Operator o) ∷ rest) stops = omega arith
stops_weaker a b h (mark symbol.Question ∷ rest) stops = omega arith
stops_weaker a b h (mark symbol.Complement ∷ rest) stops = tt
stops_weaker a b h (mark symbol.Not ∷ rest) stops = tt
stops_weaker a b h (mark symbol.Colon ∷ rest) stops = tt
stops_weaker a b h (mark symbol.Assign ∷ rest) stops = tt
stops_weaker a b h (mark symbol.OpenParen ∷ rest) stops = tt
stops_weaker a b h (mark symbol.CloseParen ∷ rest) stops = tt

last_tighter : (tree : Tree) (n : ℕ) → level tree ≤ n → n ≤ 10 → last_bound tree ≤ n
last_tighter (constant word) n h small = omega arith
last_tighter (variable word) n h small = omega arith
last_tighter (parenthesized inner) n h small = omega arith
last_tighter (prefixed prefix inner) n h small = omega arith
last_tighter (binary o left right) n h small = h
last_tighter (conditional condition chosen other) n h small = absurd (omega arith)
last_tighter (assignment word value) n h small = omega arith

last_within : (tree : Tree) (bound : ℕ) → level tree < bound → last_bound tree ≤ bound
last_within (constant word) bound h = omega arith
last_within (variable word) bound h = omega arith
last_within (parenthesized inner) bound h = omega arith
last_within (prefixed prefix inner) bound h = omega arith
last_within (binary o left right) bound h = omega arith
last_within (conditional condition chosen other) bound h = omega arith
last_within (assignment word value) bound h = omega arith

regrouped : (left : List Token) (token : Token) (right rest : List Token) → (left ++ token ∷ right) ++ rest ≡ left ++ token ∷ (right ++ rest)
regrouped left token right rest = append_assoc left (token ∷ right) rest

-- an expression that is no assignment doesn't begin as one
no_assignment : (tree : Tree) → IsExpression tree → level tree ≤ 11 → (rest : List Token) → NotAssigned rest → NoAssignment (spelled tree ++ rest)
no_assignment (constant word) h tight rest free = tt
no_assignment (variable word) h tight rest free = free
no_assignment (parenthesized inner) h tight rest free = tt
no_assignment (prefixed prefix.Plus inner) h tight rest free = tt
no_assignment (prefixed prefix.Minus inner) h tight rest free = tt
no_assignment (prefixed prefix.Complement inner) h tight rest free = tt
no_assignment (prefixed prefix.Not inner) h tight rest free = tt
no_assignment (binary o left right) h tight rest free =
    subst NoAssignment (sym (regrouped (spelled left) (mark (symbol.Operator o)) (spelled right) rest))
    (no_assignment left h.2 (omega (arith, (operator_bounds o).1)) (mark (symbol.Operator o) ∷ (spelled right ++ rest)) (λ e. cc))
no_assignment (conditional condition chosen other) h tight rest free =
    subst NoAssignment (sym (regrouped (spelled condition) (mark symbol.Question) (spelled chosen ++ mark symbol.Colon ∷ spelled other) rest))
    (no_assignment condition h.2 (omega arith) (mark symbol.Question ∷ ((spelled chosen ++ mark symbol.Colon ∷ spelled other) ++ rest)) (λ e. cc))
no_assignment (assignment word value) h tight rest free = absurd (omega arith)

-- an expression is read whole, wherever it stands
record IsRead (tree : Tree) : Type 0 where
  operand : level tree ≤ 0 → (rest : List Token) → IsOperand (spelled tree ++ rest) tree rest
  tighter : (bound : ℕ) → level tree < bound → bound ≤ 12 → (rest : List Token) → Stops (last_bound tree) rest → (whole : Tree) (more : List Token) → GoesOn bound tree rest whole more → IsTighter bound (spelled tree ++ rest) whole more
  any : (rest : List Token) → Stops 12 rest → NotAssigned rest → IsAny (spelled tree ++ rest) tree rest

any_tighter : (tree : Tree) → IsExpression tree → level tree < 12 → ((bound : ℕ) → level tree < bound → bound ≤ 12 → (rest : List Token) → Stops (last_bound tree) rest → (whole : Tree) (more : List Token) → GoesOn bound tree rest whole more → IsTighter bound (spelled tree ++ rest) whole more) → (rest : List Token) → Stops 12 rest → NotAssigned rest → IsAny (spelled tree ++ rest) tree rest
any_tighter tree h tight tighter rest stops free =
    unassigned (no_assignment tree h (omega arith) rest free)
    (tighter 12 tight (lit≤ tt) rest (stops_weaker (last_bound tree) 12 (last_within tree 12 tight) rest stops) tree rest (stopped stops))

operand_read : (tree : Tree) → IsExpression tree → level tree ≤ 0 → ((rest : List Token) → IsOperand (spelled tree ++ rest) tree rest) → IsRead tree
operand_read tree h tight operand = record {
  operand = λ _. operand;
  tighter = λ bound below within rest stops whole more on. begun (operand rest) on;
  any = any_tighter tree h (omega arith) (λ bound below within rest stops whole more on. begun (operand rest) on);
}

part_read : (tree : Tree) → IsRead tree → (bound : ℕ) → level tree < bound → bound ≤ 12 → (rest : List Token) → Stops bound rest → IsTighter bound (spelled tree ++ rest) tree rest
part_read tree read bound below within rest stops =
    read.tighter bound below within rest (stops_weaker (last_bound tree) bound (last_within tree bound below) rest stops) tree rest (stopped stops)

tighter_binary : (o : Operator) (left right : Tree) → IsExpression (binary o left right) → IsRead left → IsRead right → (bound : ℕ) → operator_level o < bound → bound ≤ 12 → (rest : List Token) → Stops (operator_level o) rest → (whole : Tree) (more : List Token) → GoesOn bound (binary o left right) rest whole more → IsTighter bound (spelled (binary o left right) ++ rest) whole more
tighter_binary o left right h l r bound below within rest stops whole more on =
    let high = (operator_bounds o).1 in
    subst (λ tokens. IsTighter bound tokens whole more) (sym (regrouped (spelled left) (mark (symbol.Operator o)) (spelled right) rest))
    (l.tighter bound (omega arith) within (mark (symbol.Operator o) ∷ (spelled right ++ rest)) (last_tighter left (operator_level o) h.0 high) whole more
    (operated below (part_read right r (operator_level o) h.1 (omega arith) rest stops) on))

tighter_conditional : (condition chosen other : Tree) → IsExpression (conditional condition chosen other) → IsRead condition → IsRead chosen → IsRead other → (bound : ℕ) → 11 < bound → bound ≤ 12 → (rest : List Token) → Stops 12 rest → (whole : Tree) (more : List Token) → GoesOn bound (conditional condition chosen other) rest whole more → IsTighter bound (spelled (conditional condition chosen other) ++ rest) whole more
tighter_conditional condition chosen other h c a b bound below within rest stops whole more on =
    let after = spelled chosen ++ mark symbol.Colon ∷ spelled other in
    let early = last_tighter condition 10 h.0 (lit≤ tt) in
    let any = a.any (mark symbol.Colon ∷ (spelled other ++ rest)) tt (λ e. cc) in
    let told : IsAny (after ++ rest) chosen (mark symbol.Colon ∷ (spelled other ++ rest)) =
    subst (λ tokens. IsAny tokens chosen (mark symbol.Colon ∷ (spelled other ++ rest))) (sym (regrouped (spelled chosen) (mark symbol.Colon) (spelled other) rest)) any in
    subst (λ tokens. IsTighter bound tokens whole more) (sym (regrouped (spelled condition) (mark symbol.Question) after rest))
    (c.tighter bound (omega arith) within (mark symbol.Question ∷ (after ++ rest)) (omega arith) whole more
    (asked below told (part_read other b 12 (omega arith) (lit≤ tt) rest stops) on))

sign_of : (operator : Prefix) (tokens : List Token) (inner : Tree) (rest : List Token) → IsOperand (spelled inner ++ rest) inner rest → IsOperand (spelled (prefixed operator inner) ++ rest) (prefixed operator inner) rest
sign_of prefix.Plus tokens inner rest more = one_prefixed refl more
sign_of prefix.Minus tokens inner rest more = one_prefixed refl more
sign_of prefix.Complement tokens inner rest more = one_prefixed refl more
sign_of prefix.Not tokens inner rest more = one_prefixed refl more

is_read : (tree : Tree) → IsExpression tree → IsRead tree
is_read (constant word) h = operand_read (constant word) h (lit≤ tt) (λ rest. one_constant)
is_read (variable word) h = operand_read (variable word) h (lit≤ tt) (λ rest. one_variable)
is_read (parenthesized inner) h =
    operand_read (parenthesized inner) h (lit≤ tt)
    (λ rest. subst (λ tokens. IsOperand (mark symbol.OpenParen ∷ tokens) (parenthesized inner) rest) (sym (append_assoc (spelled inner) (mark symbol.CloseParen ∷ []) rest))
    (one_parenthesized ((is_read inner h).any (mark symbol.CloseParen ∷ rest) tt (λ e. cc))))
is_read (prefixed operator inner) h = operand_read (prefixed operator inner) h (lit≤ tt) (λ rest. sign_of operator [] inner rest ((is_read inner h.1).operand h.0 rest))
is_read (binary o left right) h =
    let tighter = tighter_binary o left right h (is_read left h.2) (is_read right h.3) in
    record {
      operand = λ none. absurd (omega (arith, (operator_bounds o).0));
      tighter = tighter;
      any = any_tighter (binary o left right) h (omega (arith, (operator_bounds o).1)) tighter;
    }
is_read (conditional condition chosen other) h =
    let tighter = tighter_conditional condition chosen other h (is_read condition h.2) (is_read chosen h.3) (is_read other h.4) in
    record {
      operand = λ none. absurd (omega arith);
      tighter = tighter;
      any = any_tighter (conditional condition chosen other) h (lit≤ tt) tighter;
    }
is_read (assignment word value) h = record {
  operand = λ none. absurd (omega arith);
  tighter = λ bound below within. absurd (omega arith);
  any = λ rest stops free. assigned ((is_read value h).any rest stops free);
}

-- the tokens of an expression are read as it
pub reads_any : (tokens : List Token) (tree : Tree) → Reads tokens tree → IsAny tokens tree []
reads_any tokens tree (spelling, h) = subst (λ l. IsAny l tree []) (append-nil (spelled tree) ∙ sym spelling) ((is_read tree h).any [] tt tt)
