use Rattle.ut_regex.specs.Tree.{leaf}
use Rattle.ut_regex.proofs.literals.Required.of_leaf.Goals as goal

pub returns-in-Any : goal.returns-in-Any
returns-in-Any c = λ fold. c.of_front.ensures fold (leaf c.args.one) (c.in_ok-front.ensures fold)
