use Rattle.sh_parse.proofs.WordCounts.{script_is_numbered}
use Rattle.sh_parse.proofs.laws.substitutions_are_numbered.Goals as goal

pub returns : goal.returns
returns c = λ text script is. script_is_numbered text script is
