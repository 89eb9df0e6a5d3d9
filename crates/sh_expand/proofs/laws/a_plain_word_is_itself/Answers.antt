use Rattle.sh_expand.proofs.LawLemmas.{plain_word}
use Rattle.sh_expand.proofs.laws.a_plain_word_is_itself.Goals as goal

pub returns : goal.returns
returns c = plain_word
