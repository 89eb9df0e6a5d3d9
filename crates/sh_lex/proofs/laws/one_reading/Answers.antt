use Rattle.sh_lex.proofs.Scripts.{one_reading}
use Rattle.sh_lex.proofs.laws.one_reading.Goals as goal

pub returns : goal.returns
returns c = one_reading c.args.text.now
