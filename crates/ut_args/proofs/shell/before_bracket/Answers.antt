use Rattle.std.proofs.Common.{rules}
use Rattle.ut_args.proofs.WordLemmas.{before_bracket-none, before_bracket-some}
use Rattle.ut_args.proofs.shell.before_bracket.Goals as goal

pub returns-then-eq-clause-some : goal.returns-then-eq-clause-some
returns-then-eq-clause-some c =
    before_bracket-some c.args.words.now c.in_ok-last.before.now c.in_ok-last.last.now c.in_ok-last.ensures.cases.0 (search rules)

pub returns-else-eq-clause-none : goal.returns-else-eq-clause-none
returns-else-eq-clause-none c =
    before_bracket-none c.args.words.now c.in_ok-last.before.now c.in_ok-last.last.now c.in_ok-last.ensures.cases.0 (search rules)
