use Rattle.fl_machines.proofs.PortLemmas.{AreOpen}
use Rattle.fl_machines.proofs.at_ports.all_open.Given as goal

abbrev pub invariant-loop : goal.invariant-loop
invariant-loop l = AreOpen l.opens.items l.counter
