use Rattle.sh_eval.proofs.UtilitySteps.{apart-so}
use Rattle.sh_eval.proofs.utilities.are_apart.Goals as goal

pub returns-then-are_distinct : goal.returns-then-are_distinct
returns-then-are_distinct c = λ none. apart-so c.args.files.now _ _ c.are_distinct.ensures c.has_null.ensures c.if-are_distinct.true none
