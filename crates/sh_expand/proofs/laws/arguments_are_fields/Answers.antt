use Rattle.sh_expand.proofs.LawLemmas.{arguments_stay}
use Rattle.sh_expand.proofs.laws.arguments_are_fields.Goals as goal

pub returns : goal.returns
returns c = arguments_stay
