use Rattle.std.proofs.Common.{ap, sym, ◌∙◌}
use Rattle.std.specs.Str.{bytes_eq}
use Rattle.std.proofs.lemmas.Slice.Eq.{bytes_eq-Decides}
use Rattle.sh_arith.proofs.VariableLemmas.{ties_if_named}
use Rattle.sh_arith.proofs.variables.is_named.Goals as goal

pub returns-clause-ties : goal.returns-clause-ties
returns-clause-ties c =
    let own = c.args.variable.now.name in
    let name = c.args.name.now in
    let same = c.eq.ensures ∙ ap (λ text. bytes_eq text name) c.as_slice.ensures in
    ties_if_named c.eq.result name own (λ yes. (bytes_eq-Decides own name).0 (sym same ∙ yes), λ is. same ∙ (bytes_eq-Decides own name).1 is)
