use Rattle.ut_regex.proofs.SeveralLemmas.{had-any}
use Rattle.ut_regex.proofs.laws.some_expression_is_had.Goals as goal

pub returns : goal.returns
returns c = λ fold whole trees line. had-any fold whole line trees
