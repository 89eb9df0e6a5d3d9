use Rattle.sh_expand.specs.declared.splitting.Before.TheVariants as before
use Rattle.sh_expand.proofs.LawLemmas.{invents_nothing_behind}
use Rattle.sh_expand.proofs.laws.splitting_invents_nothing.Goals as goal

pub returns : goal.returns
returns c = λ ifs marks. invents_nothing_behind ifs before.Start marks
