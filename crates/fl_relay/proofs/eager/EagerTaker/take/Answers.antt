use Rattle.std.proofs.Common.{rules}
use Rattle.fl_relay.proofs.EagerLemmas.{pop}
use Rattle.fl_relay.proofs.eager.EagerTaker.take.Goals as goal

pub pop_as-requires-clause-rule : goal.pop_as-requires-clause-rule
pop_as-requires-clause-rule g c = (pop _ _ (search rules), λ _ _ _ _. tt)
