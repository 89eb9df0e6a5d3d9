use Rattle.std.proofs.Common.{rules}
use Rattle.fl_relay.proofs.RuleLemmas.{receive}
use Rattle.fl_relay.proofs.halves.Taker.take.Goals as goal

pub recv_as-requires-clause-rule : goal.recv_as-requires-clause-rule
recv_as-requires-clause-rule g c = (receive _ _ (search rules), λ _ _ _ _. tt)
