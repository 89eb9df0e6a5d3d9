use Rattle.std.proofs.Common.{ap, sym, ◌∙◌, bytes_eq}
use Rattle.fl_text.proofs.MemberLemmas.{first-found}
use Rattle.fl_text.proofs.fields.is_first.Goals as goal

pub returns-in-Some : goal.returns-in-Some
returns-in-Some c =
    c.eq.ensures
    ∙ (ap (λ text. bytes_eq text c.args.key.now) c.as_str.ensures.value
    ∙ sym (first-found c.args.key.now c.args.members.now.entries c.in-Some.name.now c.in-Some.field-0-1.now c.in-Some.ensures.first))
