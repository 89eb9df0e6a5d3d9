use Rattle.sh_parse.proofs.OneOutcome.{one_outcome_of}
use Rattle.sh_parse.proofs.laws.one_outcome_of_a_text.Goals as goal

pub returns : goal.returns
returns c = one_outcome_of c.args.text.now
