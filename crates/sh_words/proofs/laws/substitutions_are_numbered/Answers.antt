use Rattle.std.proofs.Common.{length}
use Rattle.sh_words.specs.Words.{assigned_value}
use Rattle.sh_words.proofs.NumberLemmas.{behind_numbered}
use Rattle.sh_words.proofs.laws.substitutions_are_numbered.Goals as goal

pub returns-clause-word : goal.returns-clause-word
returns-clause-word c = λ first bytes outcome. behind_numbered first (length bytes) bytes outcome

pub returns-clause-value : goal.returns-clause-value
returns-clause-value c = λ first bytes outcome. behind_numbered first (length bytes) (assigned_value bytes) outcome
