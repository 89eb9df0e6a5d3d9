use Rattle.std.proofs.Common.{◌≡◌, map, take}
use Rattle.fl_commands.specs.Operands.{lacks}
use Rattle.fl_commands.proofs.operands.lacking.Given as goal

abbrev pub invariant-loop-operand : goal.invariant-loop-operand
invariant-loop-operand l = l.flags.items ≡ map lacks (take l.operand-index l.operands)
