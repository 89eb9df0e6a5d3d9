use Rattle.sh_lex.proofs.StandLemmas.{tokens_stand}
use Rattle.sh_lex.proofs.laws.tokens_stand_in_the_text.Goals as goal

pub returns : goal.returns
returns c = tokens_stand c.args.text.now
