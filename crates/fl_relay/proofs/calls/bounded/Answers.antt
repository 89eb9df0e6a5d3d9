use Rattle.std.proofs.Common.{rules}
use Rattle.fl_relay.proofs.RuleLemmas.{make, split}
use Rattle.fl_relay.proofs.calls.bounded.Goals as goal

pub bounded_with-requires-clause-rule : goal.bounded_with-requires-clause-rule
bounded_with-requires-clause-rule c = make

pub another-other-requires-clause-rule : goal.another-other-requires-clause-rule
another-other-requires-clause-rule c = split _ _ (search rules) (search rules)
