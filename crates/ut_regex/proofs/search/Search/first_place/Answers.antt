use Rattle.ut_regex.proofs.LiteralLemmas.{exact-first, exact-none, exact-stands}
use Rattle.ut_regex.proofs.search.Search.first_place.Goals as goal

pub returns-in-Some-clause-first : goal.returns-in-Some-clause-first
returns-in-Some-clause-first c = exact-first c.args.self.now c.in-Exact.finder c.args.text.now c.in-Some.place c.in-Exact.is c.in-Some.ensures

pub returns-in-Some-clause-stands : goal.returns-in-Some-clause-stands
returns-in-Some-clause-stands c = λ told within. exact-stands c.args.self.now c.in-Exact.finder c.args.text.now c.in-Some.place c.in-Exact.is c.in-Some.ensures

pub returns-in-None-clause-first : goal.returns-in-None-clause-first
returns-in-None-clause-first c = exact-none c.args.self.now c.in-Exact.finder c.args.text.now c.in-Exact.is c.in-None.ensures
