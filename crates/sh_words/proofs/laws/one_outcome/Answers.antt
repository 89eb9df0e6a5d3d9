use Rattle.std.proofs.Common.{length}
use Rattle.sh_words.proofs.Readings.{behind_one}
use Rattle.sh_words.proofs.laws.one_outcome.Goals as goal

pub returns : goal.returns
returns c = behind_one c.args.first (length c.args.bytes.now) c.args.bytes.now
