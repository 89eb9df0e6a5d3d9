use Rattle.std.proofs.Common.{◌≡◌, ◌++◌, List, length}
use Rattle.fl_commands.specs.Inner.Stages.{AreStagesOf}
use Rattle.fl_commands.specs.declared.members.Member.{Member}
use Rattle.fl_commands.proofs.stages.stages_of.Given as goal

abbrev pub invariant-loop-left : goal.invariant-loop-left
invariant-loop-left l = (before : List Member) × (AreStagesOf before l.stages.items × (l.members ≡ before ++ l.left))

abbrev pub decreases-loop-left : goal.decreases-loop-left
decreases-loop-left l = length l.left
