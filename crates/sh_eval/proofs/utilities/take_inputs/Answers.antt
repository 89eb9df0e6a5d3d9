use Rattle.std.proofs.Common.{refl}
use Rattle.sh_eval.specs.Inner.Runs.{utility_does}
use Rattle.sh_eval.proofs.UtilitySteps.{few-operands, takes-meant, utility-meant}
use Rattle.sh_eval.proofs.utilities.take_inputs.Goals as goal

pub run_task-requires-clause-ready : goal.run_task-requires-clause-ready
run_task-requires-clause-ready g c κs within =
    record { fileless = refl; built = c.requires.built; named = c.requires.looked.are; few = few-operands _ _ c.requires.few c.requires.looked.are; stand = c.requires.looked.stand }

pub returns : goal.returns
returns g c = λ name.
    takes-meant name c.args.inv.now _ _ _
    (c.run_task.ensures (utility_does name c.args.inv.now) (λ own. utility-meant name c.args.inv.now c.args.operands.now (g.T.Tree.state c.args.tree.now) c.requires.needed c.requires.looked.named))
