use Rattle.ut_regex.proofs.LiteralLemmas.{looks-folded}
use Rattle.ut_regex.proofs.search.Search.of_literal.Goals as goal

pub returns-then-fold : goal.returns-then-fold
returns-then-fold c = λ re literal. looks-folded c.args.fold re c.args.bytes.items c.of.result c.of.ensures c.if-fold.true c.requires literal
