use Rattle.ut_regex.specs.Tree.{repetition}
use Rattle.ut_regex.proofs.literals.Required.repeated.Goals as goal

pub returns-then-bounds-eq0 : goal.returns-then-bounds-eq0
returns-then-bounds-eq0 c = λ fold re is. c.nothing.ensures fold (repetition c.args.bounds re)
