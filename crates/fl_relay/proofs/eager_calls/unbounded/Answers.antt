use Rattle.std.proofs.Common.{rules}
use Rattle.fl_relay.proofs.RuleLemmas.{make}
use Rattle.fl_relay.proofs.EagerLemmas.{fork}
use Rattle.fl_relay.proofs.eager_calls.unbounded.Goals as goal

pub with_rule-requires : goal.with_rule-requires
with_rule-requires c = make

pub another-other-requires-clause-rule : goal.another-other-requires-clause-rule
another-other-requires-clause-rule c = fork _ _ (search rules) (search rules)
