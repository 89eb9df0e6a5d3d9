use Rattle.sh_lex.proofs.OrderLemmas.{tokens_in_order}
use Rattle.sh_lex.proofs.laws.tokens_are_in_order.Goals as goal

pub returns : goal.returns
returns c = tokens_in_order c.args.text.now
