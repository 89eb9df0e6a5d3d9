use Rattle.fl_classes.proofs.CutLemmas.{over_lines}
use Rattle.fl_classes.proofs.laws.classes_go_over_cut_lists.Goals as goal

pub returns-clause-lines : goal.returns-clause-lines
returns-clause-lines c = over_lines
