use Rattle.std.proofs.Common.{length}
use Rattle.sh_words.specs.Words.{assigned_value}
use Rattle.sh_words.proofs.Readings.{behind_one}
use Rattle.sh_words.proofs.laws.one_outcome_of_an_assignment.Goals as goal

pub returns : goal.returns
returns c = behind_one c.args.first (length c.args.bytes.now) (assigned_value c.args.bytes.now)
