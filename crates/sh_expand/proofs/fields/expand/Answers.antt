use Rattle.sh_expand.proofs.OutcomeLemmas.{fields_tell}
use Rattle.sh_expand.proofs.fields.expand.Goals as goal

pub returns-clause-fields : goal.returns-clause-fields
returns-clause-fields g c = rw (← c.known_of-known.ensures) c.fields_of_words.ensures.fields

pub returns-clause-many : goal.returns-clause-many
returns-clause-many g c = rw (← c.known_of-known.ensures) c.fields_of_words.ensures.many

pub returns-clause-unasked : goal.returns-clause-unasked
returns-clause-unasked g c = rw (← c.known_of-known.ensures) c.fields_of_words.ensures.unasked

pub returns-clause-told : goal.returns-clause-told
returns-clause-told g c = λ expansions are files home.
    rw (← c.known_of-known.ensures) (λ sees. fields_tell expansions are files home _ _ _ _ c.fields_of_words.result (c.fields_of_words.ensures.fields files home sees) c.fields_of_words.ensures.few (c.fields_of_words.ensures.many files home sees) c.fields_of_words.ensures.fault)
