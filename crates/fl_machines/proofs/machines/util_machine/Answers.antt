use Rattle.fl_machines.proofs.MachineLemmas.{begins-apart}
use Rattle.fl_machines.proofs.machines.util_machine.Goals as goal

pub returns-in-Ok : goal.returns-in-Ok
returns-in-Ok c = begins-apart c.args.kind.now c.in-Some.inv.now c.args.ins c.args.outs _ c.requires c.in-Some.ensures.runs c.in-Ok.ensures
