use Rattle.std.proofs.Common.{arith}
use Rattle.std.proofs.lemmas.List.{nil_from_length}
use Rattle.sh_eval.proofs.OpeningLemmas.{opens-empty}
use Rattle.sh_eval.proofs.opening.lead_all.Goals as goal

pub returns-clause-ok : goal.returns-clause-ok
returns-clause-ok g c = λ drawn input. opens-empty c.args.way c.args.targets.now _ (nil_from_length c.args.targets.now (let below = c.in-empty.len_below in omega (arith, below)))
