use Rattle.sh_eval.proofs.Growing.{script-adds}
use Rattle.sh_eval.proofs.laws.scripts_add.Goals as goal

-- src/laws.rt:14:1
pub returns : goal.returns
returns c = script-adds
