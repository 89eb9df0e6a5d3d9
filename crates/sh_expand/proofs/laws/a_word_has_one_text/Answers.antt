use Rattle.sh_expand.proofs.UniqueLemmas.{one_text, one_text_stop, text_no_stop}
use Rattle.sh_expand.proofs.laws.a_word_has_one_text.Goals as goal

pub returns-clause-text : goal.returns-clause-text
returns-clause-text c = λ given before after later word text other x y. one_text x y

pub returns-clause-fault : goal.returns-clause-fault
returns-clause-fault c = λ given before after later word fault other x y meant also. one_text_stop x y meant also

pub returns-clause-either : goal.returns-clause-either
returns-clause-either c = λ given before after later word text fault x y meant. text_no_stop x y meant
