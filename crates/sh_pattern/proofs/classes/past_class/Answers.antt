use Rattle.std.proofs.Common.{rules}
use Rattle.sh_pattern.proofs.ClassLemmas.{other_name, its_name}
use Rattle.sh_pattern.proofs.classes.past_class.Goals as goal

pub returns-in_err-closed-clause-past : goal.returns-in_err-closed-clause-past
returns-in_err-closed-clause-past c = search (rules, other_name c.args.class c.args.text.now c.in_ok-named.named.now)

pub returns-clause-past : goal.returns-clause-past
returns-clause-past c = search (rules, its_name c.args.class c.args.text.now c.in_ok-named.named.now c.in_ok-closed.closed.now)
