use Rattle.std.proofs.Common.{rules}
use Rattle.fl_relay.proofs.EagerLemmas.{push}
use Rattle.fl_relay.proofs.eager.EagerGiver.put.Goals as goal

pub push_as-pushed-requires-clause-rule : goal.push_as-pushed-requires-clause-rule
push_as-pushed-requires-clause-rule g c = λ room. push room _ _ _ (search rules) (search rules)
