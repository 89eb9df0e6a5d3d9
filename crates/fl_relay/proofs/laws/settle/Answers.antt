use Rattle.std.proofs.Common.{rules}
use Rattle.fl_relay.proofs.PieceLemmas.{all-taken}
use Rattle.fl_relay.proofs.RuleLemmas.{join, learn}
use Rattle.fl_relay.proofs.laws.settle.Goals as goal

pub absorb-requires-clause-rule : goal.absorb-requires-clause-rule
absorb-requires-clause-rule c = join _ _ _ _ (search rules) (search rules)

pub learn_as-requires-clause-rule : goal.learn_as-requires-clause-rule
learn_as-requires-clause-rule c = learn _ _ (search rules) (search rules)

pub returns-clause-all : goal.returns-clause-all
returns-clause-all c = all-taken _ _ c.learn_as.ensures.rule.0 (search rules)
