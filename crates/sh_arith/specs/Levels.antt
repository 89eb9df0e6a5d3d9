-- How deep an expression nests (own): each pair of parentheses, unary operator, `?:` and `=` is a level round its parts. The
-- condition of a `?:` stands inside its level. The operators with two sides are none.
use Rattle.std.specs.Prelude.{◌≡◌, ℕ, ◌+◌, ◌<◌, max, List, map, Option, Some, None}
use Rattle.std.specs.Borrow.{Bor}
use Rattle.sh_arith.specs.declared.tokens.Token as code
use Rattle.sh_arith.specs.Tokens.{Token, meaning}
use Rattle.sh_arith.specs.Trees.{Tree, constant, variable, parenthesized, prefixed, binary, conditional, assignment}

-- the levels of an expression
abbrev pub levels : Tree → ℕ
levels (constant word) = 0
levels (variable word) = 0
levels (parenthesized inner) = levels inner + 1
levels (prefixed prefix inner) = levels inner + 1
levels (binary operator left right) = max (levels left) (levels right)
levels (conditional condition chosen other) = max (levels condition) (max (levels chosen) (levels other)) + 1
levels (assignment word value) = levels value + 1

-- what a call that counts levels answers: their number and the tokens after the expression, or none where there is less room
abbrev pub Measures : ℕ → ℕ → List Token → Option (ℕ × Bor (List code.Token)) → Type 0
Measures room number rest None = room < number
Measures room number rest (Some found) = (found.0 ≡ number) × (map meaning found.1.now ≡ rest)
