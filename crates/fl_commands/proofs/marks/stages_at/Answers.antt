use Rattle.ps_world.specs.Files.{bytes_at}
use Rattle.fl_commands.proofs.MarkLemmas.{stages-none}
use Rattle.fl_commands.proofs.StageLemmas.{all-there}
use Rattle.fl_commands.proofs.marks.stages_at.Goals as goal

pub mark_first-requires-clause-there : goal.mark_first-requires-clause-there
mark_first-requires-clause-there g c κs within = all-there _ c.args.members.now c.in_ok-stages.stages.items c.in_ok-stages.ensures c.requires.whole c.requires.stand

pub returns-clause-marks : goal.returns-clause-marks
returns-clause-marks g c = λ files told.
    c.in_ok-mark_first.ensures.marks files told (stages-none (bytes_at files) c.args.members.now c.in_ok-stages.stages.items c.in_ok-stages.ensures)
