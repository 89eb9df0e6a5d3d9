use Rattle.ps_lines.proofs.NewlineLemmas.{CutsLine-sought, has_newline-sought}
use Rattle.ps_lines.proofs.newlines.cut_line.Goals as goal

pub returns-in-Some-clause-cut : goal.returns-in-Some-clause-cut
returns-in-Some-clause-cut c = CutsLine-sought _ _ c.in-Some.ensures

pub returns-in-None-clause-none : goal.returns-in-None-clause-none
returns-in-None-clause-none c = has_newline-sought _ c.in-None.ensures
