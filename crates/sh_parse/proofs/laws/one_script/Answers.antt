use Rattle.sh_parse.proofs.Tops.{one_script}
use Rattle.sh_parse.proofs.laws.one_script.Goals as goal

pub returns : goal.returns
returns c = λ views most one other first second. one_script views most c.args.items.now one other first second
