-- What a joint puts is what the machine within it puts.
use Rattle.fl_joints.proofs.joints.JointMachine.put.Goals as goal

pub returns-in-Fixed-clause-put : goal.returns-in-Fixed-clause-put
returns-in-Fixed-clause-put c = rw c.in-Fixed.is c.put-in-Fixed.ensures.put

pub returns-in-Merge-clause-put : goal.returns-in-Merge-clause-put
returns-in-Merge-clause-put c = rw c.in-Merge.is c.put-in-Merge.ensures.put

pub returns-in-Split-clause-put : goal.returns-in-Split-clause-put
returns-in-Split-clause-put c = rw c.in-Split.is c.put-in-Split.ensures.put
