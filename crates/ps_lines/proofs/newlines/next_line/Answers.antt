use Rattle.ps_lines.proofs.NewlineLemmas.{HasNoNewline-sought, BeginsNextLine-sought}
use Rattle.ps_lines.proofs.newlines.next_line.Goals as goal

pub returns-in_err-offset-clause-none : goal.returns-in_err-offset-clause-none
returns-in_err-offset-clause-none c = rw c.from_residual.ensures (HasNoNewline-sought _ _ c.in_err-offset.ensures)

pub returns-clause-found : goal.returns-clause-found
returns-clause-found c = BeginsNextLine-sought _ _ _ c.in_ok-offset.ensures
