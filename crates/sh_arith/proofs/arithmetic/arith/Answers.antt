use Rattle.sh_arith.proofs.OutcomeLemmas.{handed_fault, unlexed_fault}
use Rattle.sh_arith.proofs.arithmetic.arith.Goals as goal

pub returns-in_err-found-clause-fault : goal.returns-in_err-found-clause-fault
returns-in_err-found-clause-fault c =
    handed_fault _ c.from_residual.result c.in_err-found.field-0.0 c.from_residual.ensures.1 (unlexed_fault c.args.text.now c.args.env.now c.in_err-found.field-0.0 c.in_err-found.ensures.refused)
