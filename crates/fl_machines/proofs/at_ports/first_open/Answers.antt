use Rattle.std.proofs.Common.{rules}
use Rattle.fl_machines.proofs.PortLemmas.{first-left}
use Rattle.fl_machines.proofs.at_ports.first_open.Goals as goal

pub returns-clause-none : goal.returns-clause-none
returns-clause-none c = first-left c.args.opens.now c.loop-left.left.now c.loop-left.at c.loop-left.invariant.0 (search rules)
