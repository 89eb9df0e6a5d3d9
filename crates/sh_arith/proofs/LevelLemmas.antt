-- The levels of what is read so far are no more than those of the whole.
use Rattle.std.proofs.Common.{◌≡◌, ℕ, ◌+◌, ◌<◌, ◌≤◌, max, List, ◌∷◌, Option, None, Bor, sym, subst, arith}
use Rattle.sh_arith.specs.declared.operators.Operator.{Operator}
use Rattle.sh_arith.specs.declared.parsing.Step.TheVariants as step
use Rattle.sh_arith.specs.declared.tokens.Symbol.TheVariants as symbol
use Rattle.sh_arith.specs.declared.tokens.Token as code
use Rattle.sh_arith.specs.Tokens.{Token, mark}
use Rattle.sh_arith.specs.Trees.{Tree, operator_level}
use Rattle.sh_arith.specs.Parsing.{GoesBy, IsAny, IsTighter, IsOperand, GoesOn, stopped, operated, asked}
use Rattle.sh_arith.specs.Levels.{levels, Measures}
use Rattle.sh_arith.proofs.InversionLemmas.{tighter_begun, on_operated, on_asked}

pub on_levels : {bound : ℕ} {left tree : Tree} {tokens rest : List Token} → GoesOn bound left tokens tree rest → levels left ≤ levels tree
on_levels (stopped stops) = omega arith
on_levels (operated below x m) = omega (arith, on_levels m)
on_levels (asked below x y m) = omega (arith, on_levels m)

-- a part that was read, and how the whole goes on with it
abbrev pub Counted : ℕ → ℕ → List Token → Tree → List Token → Type 0
Counted bound count tokens tree rest = (left : Tree) × GoesOn bound left tokens tree rest × (count ≡ levels left)

-- what is too deep in its first operand is too deep
pub deep_operand : {bound room : ℕ} {tokens rest : List Token} {tree : Tree} (result : Option (ℕ × Bor (List code.Token))) → result ≡ None → ((left : Tree) (middle : List Token) → IsOperand tokens left middle → room < levels left) → IsTighter bound tokens tree rest → Measures room (levels tree) rest result
deep_operand {room = room} {rest = rest} {tree = tree} result is deep h =
    let b = tighter_begun h in
    let more : room < levels tree = omega (arith, on_levels b.3, deep b.0 b.1 b.2) in
    subst (Measures room (levels tree) rest) (sym is) more

-- or in an operator's right side
pub deep_right : {bound room count : ℕ} {operator : Operator} {tokens more rest : List Token} {tree : Tree} (result : Option (ℕ × Bor (List code.Token))) → result ≡ None → ((right : Tree) (middle : List Token) → IsTighter (operator_level operator) more right middle → room < max count (levels right)) → GoesBy (step.Operator operator) bound tokens more → Counted bound count tokens tree rest → Measures room (levels tree) rest result
deep_right {room = room} {rest = rest} {tree = tree} result is deep by h =
    let b = on_operated by.0 by.1 h.1 in
    let further : room < levels tree = omega (arith, on_levels b.3, deep b.0 b.1 b.2, h.2) in
    subst (Measures room (levels tree) rest) (sym is) further

-- or in a `?:`
pub deep_sides : {bound room count : ℕ} {tokens more rest : List Token} {tree : Tree} (result : Option (ℕ × Bor (List code.Token))) → result ≡ None → ((chosen other : Tree) (middle after : List Token) → IsAny more chosen (mark symbol.Colon ∷ middle) → IsTighter 12 middle other after → room < max count (max (levels chosen) (levels other)) + 1) → GoesBy step.Question bound tokens more → Counted bound count tokens tree rest → Measures room (levels tree) rest result
deep_sides {room = room} {rest = rest} {tree = tree} result is deep by h =
    let b = on_asked by.0 by.1 h.1 in
    let further : room < levels tree = omega (arith, on_levels b.6, deep b.0 b.1 b.2 b.3 b.4 b.5, h.2) in
    subst (Measures room (levels tree) rest) (sym is) further
