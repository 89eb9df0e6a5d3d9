use Rattle.ut_regex.proofs.LiteralLemmas.{nowhere_there}
use Rattle.ut_regex.proofs.matcher.lacks.Goals as goal

pub returns-in-Some : goal.returns-in-Some
returns-in-Some c = λ same.
    nowhere_there c.args.literal.now c.in-Some.search c.args.line.now c.first_place.result c.in-Some.is same c.first_place.ensures.first
