use Rattle.std.proofs.Common.{◌≡◌, ◌<◌, ◌≤◌, ◌+◌, ◌*◌, List, length, map, Ok}
use Rattle.sh_arith.specs.Tokens as text
use Rattle.sh_arith.specs.Tokens.{meaning}
use Rattle.sh_arith.specs.Trees.{Tree}
use Rattle.sh_arith.specs.Parsing.{IsTighter, GoesOn}
use Rattle.sh_arith.specs.Levels.{levels}
use Rattle.sh_arith.specs.Values.{evaluate}
use Rattle.sh_arith.proofs.evaluation.+evaluation.Given as goal

abbrev pub decreases-evaluate : goal.decreases-evaluate
decreases-evaluate l = 8 * length l.tokens.now + 3

abbrev pub decreases-assign : goal.decreases-assign
decreases-assign l = 8 * length l.tokens.now + 4

abbrev pub decreases-evaluate_operand : goal.decreases-evaluate_operand
decreases-evaluate_operand l = 8 * length l.tokens.now

abbrev pub decreases-evaluate_parenthesized : goal.decreases-evaluate_parenthesized
decreases-evaluate_parenthesized l = 8 * length l.tokens.now + 4

abbrev pub decreases-evaluate_prefixed : goal.decreases-evaluate_prefixed
decreases-evaluate_prefixed l = 8 * length l.tokens.now + 1

abbrev pub decreases-evaluate_right : goal.decreases-evaluate_right
decreases-evaluate_right l = 8 * length l.tokens.now + 2

abbrev pub decreases-evaluate_side : goal.decreases-evaluate_side
decreases-evaluate_side l = 8 * length l.tokens.now + 4

abbrev pub decreases-evaluate_tighter : goal.decreases-evaluate_tighter
decreases-evaluate_tighter l = 8 * length l.tokens.now + 1

abbrev pub invariant-evaluate_tighter-loop-step : goal.invariant-evaluate_tighter-loop-step
invariant-evaluate_tighter-loop-step l = record {
  value : (tree : Tree) (rest : List text.Token) → IsTighter l.bound (map meaning l.fn.tokens) tree rest → levels tree ≤ 64 → (left : Tree) × GoesOn l.bound left (map meaning l.found.rest.now) tree rest × (evaluate left l.fn.env ≡ (Ok l.found.value, l.env));
  shorter : length l.found.rest.now < length l.fn.tokens;
}

abbrev pub decreases-evaluate_tighter-loop-step : goal.decreases-evaluate_tighter-loop-step
decreases-evaluate_tighter-loop-step l = length l.found.rest.now
