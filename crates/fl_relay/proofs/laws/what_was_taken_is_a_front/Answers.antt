use Rattle.fl_relay.proofs.RuleLemmas.{taken_is_front}
use Rattle.fl_relay.proofs.laws.what_was_taken_is_a_front.Goals as goal

pub returns : goal.returns
returns c = taken_is_front
