use Rattle.fl_commands.proofs.OperandLemmas.{empty-missing}
use Rattle.fl_commands.proofs.operands.look_up.Goals as goal

pub returns-clause-empty : goal.returns-clause-empty
returns-clause-empty g c = empty-missing _ _ c.in_ok-look.ensures.plain
