use Rattle.std.proofs.Common.{refl}
use Rattle.sh_eval.proofs.WritingLemmas.{told-there}
use Rattle.sh_eval.proofs.writing.tell.Goals as goal

pub returns-clause-evaluates : goal.returns-clause-evaluates
returns-clause-evaluates g c = λ shell drawn input. told-there c.args.line.now _ _ _ _ refl (c.write_to.ensures.evaluates shell c.args.session.now drawn input refl)
