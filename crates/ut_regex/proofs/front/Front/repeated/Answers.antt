use Rattle.std.proofs.Common.{refl}
use Rattle.ut_regex.proofs.FrontLemmas.{repeated-front}
use Rattle.ut_regex.proofs.front.Front.repeated.Goals as goal

pub returns : goal.returns
returns c = repeated-front c.args.self _ refl refl
