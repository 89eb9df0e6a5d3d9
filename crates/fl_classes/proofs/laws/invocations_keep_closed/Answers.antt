use Rattle.fl_classes.proofs.ClassLemmas.{keeps-closed}
use Rattle.fl_classes.proofs.laws.invocations_keep_closed.Goals as goal

pub returns : goal.returns
returns c = keeps-closed
