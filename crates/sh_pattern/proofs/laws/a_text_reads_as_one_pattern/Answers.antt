use Rattle.sh_pattern.proofs.PatternLemmas.{some_reading}
use Rattle.sh_pattern.proofs.ReadingLemmas.{one_reading}
use Rattle.sh_pattern.proofs.laws.a_text_reads_as_one_pattern.Goals as goal

pub returns-clause-some : goal.returns-clause-some
returns-clause-some c = some_reading

pub returns-clause-only : goal.returns-clause-only
returns-clause-only c = λ text pattern other one another. one_reading one another
