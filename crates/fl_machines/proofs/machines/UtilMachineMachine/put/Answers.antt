use Rattle.fl_machines.proofs.machines.UtilMachineMachine.put.Goals as goal

pub returns-in-Copying-clause-put : goal.returns-in-Copying-clause-put
returns-in-Copying-clause-put c = rw c.in-Copying.is c.put.ensures.put
