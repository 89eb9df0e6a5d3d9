use Rattle.fl_commands.proofs.GraphLemmas.{held-same}
use Rattle.fl_commands.proofs.graphs.begin_for.Goals as goal

pub returns-in-None-clause-held : goal.returns-in-None-clause-held
returns-in-None-clause-held g c = held-same _ _ _ c.in-None.is
