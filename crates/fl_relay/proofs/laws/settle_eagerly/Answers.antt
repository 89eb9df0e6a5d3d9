use Rattle.std.proofs.Common.{rules}
use Rattle.fl_relay.proofs.EagerLemmas.{merge, learn_all}
use Rattle.fl_relay.proofs.PieceLemmas.{all-taken}
use Rattle.fl_relay.proofs.laws.settle_eagerly.Goals as goal

pub absorb-requires-clause-rule : goal.absorb-requires-clause-rule
absorb-requires-clause-rule g c = merge _ _ _ _ (search rules) (search rules)

pub len_as-requires-clause-rule : goal.len_as-requires-clause-rule
len_as-requires-clause-rule g c = learn_all _ _ (search rules) (search rules)

pub returns-clause-all : goal.returns-clause-all
returns-clause-all g c = all-taken _ _ c.len_as.ensures.rule.0 (search rules)
