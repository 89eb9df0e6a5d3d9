use Rattle.std.proofs.Common.{refl}
use Rattle.fl_graph.proofs.laws.a_break_has_its_cause.Goals as goal

pub returns : goal.returns
returns c start now taken put run none = run.honest (run.caused refl none)
