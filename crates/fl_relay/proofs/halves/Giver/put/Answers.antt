use Rattle.std.proofs.Common.{rules}
use Rattle.fl_relay.proofs.RuleLemmas.{send}
use Rattle.fl_relay.proofs.halves.Giver.put.Goals as goal

pub send_as-requires-clause-rule : goal.send_as-requires-clause-rule
send_as-requires-clause-rule g c = (send _ _ _ _ (search rules) (search rules), λ _ _ _ _. tt)
