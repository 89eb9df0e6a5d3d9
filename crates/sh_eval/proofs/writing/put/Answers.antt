use Rattle.std.proofs.Common.{refl}
use Rattle.sh_eval.proofs.WritingLemmas.{put-there}
use Rattle.sh_eval.proofs.writing.put.Goals as goal

pub returns-clause-evaluates : goal.returns-clause-evaluates
returns-clause-evaluates g c = λ shell drawn input. put-there c.args.bytes.now _ _ _ _ refl (c.write_to.ensures.evaluates shell c.args.session.now drawn input refl)
