use Rattle.ut_regex.specs.Tree.{alternative}
use Rattle.ut_regex.proofs.literals.Required.or.Goals as goal

pub returns : goal.returns
returns c = λ fold re other first second. c.of_front.ensures fold (alternative re other) (c.in_ok-front.ensures fold re other first.front second.front)
