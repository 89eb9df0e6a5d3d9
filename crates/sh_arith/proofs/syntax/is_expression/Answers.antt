use Rattle.std.proofs.lemmas.Result.{IfOk-weaker}
use Rattle.sh_arith.proofs.ReadLemmas.{accepted_exactly}
use Rattle.sh_arith.proofs.syntax.is_expression.Goals as goal

pub returns : goal.returns
returns c = IfOk-weaker c.is_accepted.result _ _ (λ holds is. accepted_exactly _ holds is) c.is_accepted.ensures
