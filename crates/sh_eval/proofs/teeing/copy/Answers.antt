use Rattle.std.proofs.Common.{ap, refl}
use Rattle.sh_eval.specs.Inner.Inputs.{called_by}
use Rattle.sh_eval.specs.Inner.Runs.{tee_does}
use Rattle.sh_eval.specs.Teeing.{status_by}
use Rattle.sh_eval.proofs.UtilitySteps.{copies-meant, tee-meant}
use Rattle.sh_eval.proofs.teeing.copy.Goals as goal

pub run_task-requires-clause-ready : goal.run_task-requires-clause-ready
run_task-requires-clause-ready g c κs within = record { tee = c.requires.tee; there = c.requires.there }

pub returns : goal.returns
returns g c =
    copies-meant (called_by c.args.inv.now) c.args.files.now c.args.is_whole _ _ _
    (c.run_task.ensures (tee_does (called_by c.args.inv.now) (status_by c.args.is_whole))
    (λ own. tee-meant c.args.inv.now _ (status_by c.args.is_whole) own (g.T.Tree.state c.args.tree.now) c.requires.tee c.status_of.ensures))
