use Rattle.sh_eval.proofs.ReadingLemmas.{took-standard}
use Rattle.sh_eval.proofs.reading.take_line.Goals as goal

pub returns-in_ok-closed-in-Standard-clause-ok : goal.returns-in_ok-closed-in-Standard-clause-ok
returns-in_ok-closed-in-Standard-clause-ok g c = rw c.in-Standard.is (took-standard _ _ _ _ _ c.new-text.ensures.items c.in_ok-closed-in-Standard.ensures.ok)
