use Rattle.sh_words.proofs.ReadLemmas.{no_form_read}
use Rattle.sh_words.proofs.reading.without_form.Goals as goal

pub returns-clause-read : goal.returns-clause-read
returns-clause-read c = λ most e.
    no_form_read most c.args.left c.args.number c.args.quoted c.args.text.now c.behind_byte.result.now _ _ e
    c.behind_byte.ensures c.in_ok-rest.ensures c.no_part.ensures.made
