use Rattle.std.proofs.Common.{sym, subst, ◌∙◌, ap, [], ◌∷◌}
use Rattle.sh_parse.specs.Inner.Owed.{again}
use Rattle.sh_parse.specs.Misuses.{FirstMisuse}
use Rattle.sh_parse.specs.Inner.Seeking.{earlier, first_mix}
use Rattle.sh_parse.proofs.Misusing.{earlier_is_first}
use Rattle.sh_parse.proofs.misuses.first_misuse.Goals as goal

pub returns : goal.returns
returns g c =
    let views = g.W.WordReader.views c.args.reader.now in
    subst (λ found. FirstMisuse views c.args.items.now found)
    (sym (c.earlier.ensures ∙ ap (earlier c.in_ok-form.form) c.in_ok-mix.ensures
    ∙ ap (λ form. earlier form (first_mix views c.args.items.now (again ∷ []))) c.in_ok-form.ensures))
    (earlier_is_first views c.args.items.now)
