use Rattle.sh_eval.specs.Inner.Inputs.{called_by}
use Rattle.sh_eval.specs.Table.{pages}
use Rattle.sh_eval.specs.Utilities.{runs_utility}
use Rattle.sh_eval.proofs.Growing.{adds-runs_utility}
use Rattle.sh_eval.proofs.UtilitySteps.{asked-before}
use Rattle.sh_eval.proofs.utilities.run_utility.Goals as goal

pub returns-in-Ok : goal.returns-in-Ok
returns-in-Ok g c =
    asked-before (λ expansions. runs_utility pages c.args.name.now (called_by c.args.inv.now)) _ _ _ _ _ _ _ _ _ _ _ _ c.in-Ok.ensures.state c.in-Ok.ensures.ok c.run_looked.ensures

pub returns-in-Err : goal.returns-in-Err
returns-in-Err g c =
    c.in-Err.ensures.err (λ expansions. runs_utility pages c.args.name.now (called_by c.args.inv.now)) (λ expansions. adds-runs_utility pages c.args.name.now (called_by c.args.inv.now)) _ _ _ _ _ _
