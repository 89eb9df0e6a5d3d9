use Rattle.std.proofs.Common.{◌≡◌, false, ◌++◌, length}
use Rattle.fl_commands.specs.Operands.{ins_from}
use Rattle.fl_commands.proofs.operands.add_ins.Given as goal

abbrev pub invariant-loop-left : goal.invariant-loop-left
invariant-loop-left l = l.fn.ins.items ++ ins_from l.deals false l.operands ≡ l.ins.items ++ ins_from l.deals l.is_taken l.left

abbrev pub decreases-loop-left : goal.decreases-loop-left
decreases-loop-left l = length l.left
