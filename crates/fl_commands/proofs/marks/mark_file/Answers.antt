use Rattle.fl_commands.proofs.MarkLemmas.{mark-holds}
use Rattle.fl_commands.proofs.marks.mark_file.Goals as goal

pub returns-clause-marks : goal.returns-clause-marks
returns-clause-marks g c = λ files told. mark-holds _ files c.args.path.now _ _ c.in_ok-copy.ensures c.in_ok-closed.ensures.closed told
