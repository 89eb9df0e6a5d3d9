use Rattle.sh_eval.proofs.gathering.find_fields.Goals as goal

pub returns-in-Ok-clause-fields : goal.returns-in-Ok-clause-fields
returns-in-Ok-clause-fields g c = λ expansions are files told. (_, c.in-Ok.ensures.told expansions are files told)
