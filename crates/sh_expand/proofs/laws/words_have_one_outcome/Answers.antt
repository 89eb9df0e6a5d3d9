use Rattle.sh_expand.proofs.UniqueLemmas.{one_fields, one_stop, fields_pass, pass_no_stop, too_many_passes, one_finding}
use Rattle.sh_expand.proofs.laws.words_have_one_outcome.Goals as goal

pub returns-clause-fields : goal.returns-clause-fields
returns-clause-fields c = λ files home given before after later words fields others x y. one_fields x y

pub returns-clause-fault : goal.returns-clause-fault
returns-clause-fault c = λ given before after later words fault other x y meant also. one_stop x y meant also

pub returns-clause-either : goal.returns-clause-either
returns-clause-either c = λ files home given before after later words fields fault x y meant. pass_no_stop (fields_pass x) y meant

pub returns-clause-passed : goal.returns-clause-passed
returns-clause-passed c = λ given before after later words fault x y meant. pass_no_stop x y meant

pub returns-clause-too_many : goal.returns-clause-too_many
returns-clause-too_many c = λ given before after later words fault x y meant. pass_no_stop (too_many_passes x) y meant

pub returns-clause-pattern : goal.returns-clause-pattern
returns-clause-pattern c = λ given before after later words found other x y. one_finding x y
