use Rattle.sh_pattern.proofs.ExpansionLemmas.{first_part, last_part}
use Rattle.sh_pattern.proofs.expansion.split_component.Goals as goal

pub returns-in-Some-clause-first : goal.returns-in-Some-clause-first
returns-in-Some-clause-first c = (first_part c.args.text.now c.in-Some.end c.in-Some.ensures.value c.in-Some.ensures.within).0

pub returns-in-Some-clause-part : goal.returns-in-Some-clause-part
returns-in-Some-clause-part c = (first_part c.args.text.now c.in-Some.end c.in-Some.ensures.value c.in-Some.ensures.within).1

pub returns-in-None-clause-last : goal.returns-in-None-clause-last
returns-in-None-clause-last c = last_part c.args.text.now c.in-None.ensures.value
