use Rattle.ut_regex.proofs.RunLemmas.{had-has}
use Rattle.ut_regex.proofs.laws.lines_are_answered.Goals as goal

pub returns : goal.returns
returns c = had-has
