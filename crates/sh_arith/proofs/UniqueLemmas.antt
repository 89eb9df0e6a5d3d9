-- Tokens are read as one expression at most.
use Rattle.std.proofs.Common.{◌≡◌, ℕ, List, ◌∷◌, refl, sym, ap, ◌∙◌, subst, arith, Some, Option}
use Rattle.sh_arith.specs.declared.operators.Prefix.{Prefix}
use Rattle.sh_arith.specs.Tokens.{Token}
use Rattle.sh_arith.specs.Trees.{Tree, parenthesized, prefixed, binary, conditional, assignment, Reads}
use Rattle.sh_arith.specs.Parsing.{IsAny, assigned, unassigned, IsTighter, begun, IsOperand, one_constant, one_variable, one_parenthesized, one_prefixed, GoesOn, stopped, operated, asked}
use Rattle.sh_arith.proofs.ParsingLemmas.{reads_any}

abbrev Same : Tree → Tree → List Token → List Token → Type 0
Same a b r s = (a ≡ b) × (r ≡ s)

same_tail : {t u : Token} {r s : List Token} → ◌≡◌ {A = List Token} (t ∷ r) (u ∷ s) → r ≡ s
same_tail e = cc

same_operator : {operator other : Prefix} → ◌≡◌ {A = Option Prefix} (Some operator) (Some other) → operator ≡ other
same_operator e = cc

mutual
  one_any : {tokens r s : List Token} {a b : Tree} → IsAny tokens a r → IsAny tokens b s → Same a b r s
  one_any (assigned {word = word} x) (assigned y) = let same = one_any x y in (ap (assignment word) same.0, same.1)
  one_any (assigned x) (unassigned free y) = absurd (free refl)
  one_any (unassigned free x) (assigned y) = absurd (free refl)
  one_any (unassigned free x) (unassigned also y) = one_tighter x y

  one_tighter : {bound : ℕ} {tokens r s : List Token} {a b : Tree} → IsTighter bound tokens a r → IsTighter bound tokens b s → Same a b r s
  one_tighter {bound} {s = s} {b = b} (begun {left = left} x m) (begun {middle = other_middle} y n) =
      let same = one_operand x y in
      one_on m (subst (λ l. GoesOn bound left l b s) (sym same.1) (subst (λ t. GoesOn bound t other_middle b s) (sym same.0) n))

  one_operand : {tokens r s : List Token} {a b : Tree} → IsOperand tokens a r → IsOperand tokens b s → Same a b r s
  one_operand one_constant one_constant = (refl, refl)
  one_operand one_variable one_variable = (refl, refl)
  one_operand (one_parenthesized x) (one_parenthesized y) = let same = one_any x y in (ap parenthesized same.0, same_tail same.1)
  one_operand (one_parenthesized x) (one_prefixed sign y) = cc
  one_operand (one_prefixed sign x) (one_parenthesized y) = cc
  one_operand (one_prefixed {operator = o} {inner = inner} sign x) (one_prefixed {operator = p} {inner = other} also y) =
      let same = one_operand x y in
      let operators : o ≡ p = same_operator (sym sign ∙ also) in
      (ap (λ q. prefixed q inner) operators ∙ ap (prefixed p) same.0, same.1)

  one_on : {bound : ℕ} {left a b : Tree} {tokens r s : List Token} → GoesOn bound left tokens a r → GoesOn bound left tokens b s → Same a b r s
  one_on (stopped stops) (stopped also) = (refl, refl)
  one_on (stopped stops) (operated below x m) = absurd (omega arith)
  one_on (stopped stops) (asked below x y m) = absurd (omega arith)
  one_on (operated below x m) (stopped stops) = absurd (omega arith)
  one_on (asked below x y m) (stopped stops) = absurd (omega arith)
  one_on {bound} {left = before} {b = b} {s = s} (operated {operator = o} {middle = middle} {right = right} below x m) (operated {middle = other_middle} {right = other_right} also y n) =
      let same = one_tighter x y in
      one_on m (subst (λ l. GoesOn bound (binary o before right) l b s) (sym same.1) (subst (λ t. GoesOn bound (binary o before t) other_middle b s) (sym same.0) n))
  one_on {bound} {left = before} {b = b} {s = s} (asked {middle = middle} {after = after} {chosen = chosen} {other = other} below x y m) (asked {middle = next_middle} {after = next_after} {chosen = next_chosen} {other = next_other} also z w n) =
      let first = one_any x z in
      let last = one_tighter y (subst (λ l. IsTighter 12 l next_other next_after) (sym (same_tail first.1)) w) in
      one_on m (subst (λ l. GoesOn bound (conditional before chosen other) l b s) (sym last.1)
      (subst (λ t. GoesOn bound (conditional before chosen t) next_after b s) (sym last.0)
      (subst (λ t. GoesOn bound (conditional before t next_other) next_after b s) (sym first.0) n)))

pub one_tree : (tokens : List Token) (a b : Tree) → Reads tokens a → Reads tokens b → a ≡ b
one_tree tokens a b x y = (one_any (reads_any tokens a x) (reads_any tokens b y)).0
