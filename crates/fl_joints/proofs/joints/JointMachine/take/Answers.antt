-- What a joint takes is what the machine within it takes.
use Rattle.fl_joints.proofs.joints.JointMachine.take.Goals as goal

pub returns-in-Merge-clause-due : goal.returns-in-Merge-clause-due
returns-in-Merge-clause-due c = rw c.in-Merge.is c.take-in-Merge.ensures.due
