use Rattle.sh_parse.proofs.Tops.{one_outcome}
use Rattle.sh_parse.proofs.laws.one_outcome.Goals as goal

pub returns : goal.returns
returns c = λ views. one_outcome views c.args.items.now
