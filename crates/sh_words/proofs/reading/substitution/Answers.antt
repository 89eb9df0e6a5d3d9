use Rattle.std.proofs.Common.{rules}
use Rattle.sh_words.proofs.ReadLemmas.{substitution_read}
use Rattle.sh_words.proofs.reading.substitution.Goals as goal

pub returns-clause-read : goal.returns-clause-read
returns-clause-read c = λ most left whole e.
    substitution_read most left c.args.number c.args.quoted whole c.args.text.now c.in-Some.next c.in_ok-rest.rest.now _ e
    c.in_ok-rest.ensures (search rules) c.substitution_part.ensures
