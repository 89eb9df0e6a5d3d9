use Rattle.std.proofs.Common.{◌≡◌, ◌<◌, ◌≤◌, ◌+◌, ◌*◌, List, length, map}
use Rattle.sh_arith.specs.Tokens as text
use Rattle.sh_arith.specs.Tokens.{meaning}
use Rattle.sh_arith.specs.Trees.{Tree}
use Rattle.sh_arith.specs.Parsing.{IsTighter, GoesOn}
use Rattle.sh_arith.specs.Levels.{levels}
use Rattle.sh_arith.proofs.levels.+levels.Given as goal

abbrev pub decreases-measure : goal.decreases-measure
decreases-measure l = 8 * length l.tokens.now + 3

abbrev pub decreases-measure_inside : goal.decreases-measure_inside
decreases-measure_inside l = 8 * length l.tokens.now + 4

abbrev pub decreases-measure_operand : goal.decreases-measure_operand
decreases-measure_operand l = 8 * length l.tokens.now

abbrev pub decreases-measure_right : goal.decreases-measure_right
decreases-measure_right l = 8 * length l.tokens.now + 2

abbrev pub decreases-measure_sides : goal.decreases-measure_sides
decreases-measure_sides l = 8 * length l.tokens.now + 4

abbrev pub decreases-measure_tighter : goal.decreases-measure_tighter
decreases-measure_tighter l = 8 * length l.tokens.now + 1

abbrev pub invariant-measure_tighter-loop-step : goal.invariant-measure_tighter-loop-step
invariant-measure_tighter-loop-step l = record {
  measured : (tree : Tree) (rest : List text.Token) → IsTighter l.bound (map meaning l.fn.tokens) tree rest → (left : Tree) × GoesOn l.bound left (map meaning l.rest) tree rest × (l.levels ≡ levels left);
  within : l.levels ≤ l.room;
  shorter : length l.rest < length l.fn.tokens;
}

abbrev pub decreases-measure_tighter-loop-step : goal.decreases-measure_tighter-loop-step
decreases-measure_tighter-loop-step l = length l.rest
