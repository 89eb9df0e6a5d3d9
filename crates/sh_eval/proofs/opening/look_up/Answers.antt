use Rattle.std.proofs.Common.{◌∙◌, ap, sym, Err}
use Rattle.std.specs.Option.{option_copied}
use Rattle.sh_eval.specs.Inner.Opening.{freed}
use Rattle.sh_eval.specs.Redirections.{first_busy}
use Rattle.sh_eval.proofs.OpeningLemmas.{adds-freed, busy-so, faults-so, looked-in-vain}
use Rattle.sh_eval.proofs.opening.look_up.Goals as goal

pub returns-in-Err-clause-err : goal.returns-in-Err-clause-err
returns-in-Err-clause-err g c = λ shell seen input output errors found operands inner adds.
    rw c.how_of.ensures
    (looked-in-vain c.in-Err.error (λ expansions. freed found c.args.targets.now (inner expansions)) (λ expansions. adds-freed found c.args.targets.now (inner expansions) (adds expansions))
    shell _ _ _ seen input output errors _ _ c.in-Err.ensures.state c.in-Err.ensures.cause.later (λ failed. c.in-Err.ensures.cause.failed (ap Err failed)))

pub returns-in-Some-clause-err : goal.returns-in-Some-clause-err
returns-in-Some-clause-err g c = λ shell seen input output errors found operands inner adds.
    busy-so _ c.args.targets.now found _ _ shell _ _ _ seen _ _ _
    (ap (first_busy c.args.session.now.streams.held) (sym c.as_slice.ensures.value) ∙ sym c.first_busy.ensures ∙ ap option_copied c.in-Some.is)
    operands c.in-Ok.ensures.ok c.in-Ok.ensures.state (faults-so input output errors _ _ c.in-Ok.ensures.cause.ok) c.refuse_busy.ensures inner adds
