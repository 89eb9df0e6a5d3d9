use Rattle.std.proofs.Common.{Err, ap}
use Rattle.sh_eval.proofs.OpeningLemmas.{looked-in-vain}
use Rattle.sh_eval.proofs.utilities.look_operands.Goals as goal

pub returns-in-Err-clause-err : goal.returns-in-Err-clause-err
returns-in-Err-clause-err g c = λ means adds shell session seen input output errors.
    rw c.how_of.ensures
    (looked-in-vain c.in-Err.error means adds shell session _ _ seen input output errors _ _ c.in-Err.ensures.state c.in-Err.ensures.cause.later (λ failed. c.in-Err.ensures.cause.failed (ap Err failed)))
