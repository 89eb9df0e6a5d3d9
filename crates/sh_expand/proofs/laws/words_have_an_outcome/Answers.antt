use Rattle.sh_expand.proofs.SomeLemmas.{fields_or_fault, pass_or_stop, text_or_fault}
use Rattle.sh_expand.proofs.laws.words_have_an_outcome.Goals as goal

pub returns-clause-fields : goal.returns-clause-fields
returns-clause-fields c = λ files home given before words. fields_or_fault files home given words before

pub returns-clause-passed : goal.returns-clause-passed
returns-clause-passed c = λ given before words. pass_or_stop given words before

pub returns-clause-text : goal.returns-clause-text
returns-clause-text c = λ given before word. text_or_fault given word before
