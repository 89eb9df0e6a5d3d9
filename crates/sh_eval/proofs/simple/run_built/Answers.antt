use Rattle.std.proofs.Common.{◌∙◌, ap, map, sym}
use Rattle.ut_args.specs.Invocations.{command_of}
use Rattle.sh_eval.specs.Inner.Bodies.{assign_tree}
use Rattle.sh_eval.specs.Inner.Checks.{found_of}
use Rattle.sh_eval.specs.Table.{patterns_of}
use Rattle.sh_eval.specs.Utilities.{read, refers_back, wrong}
use Rattle.sh_eval.proofs.SimpleSteps.{found-adds, found-so, found_so, refers-so, wrong-so}
use Rattle.sh_eval.proofs.Steps.{wanted}
use Rattle.sh_eval.proofs.simple.run_built.Goals as goal

pub returns-in-Read : goal.returns-in-Read
returns-in-Read g c =
    found-so c.args.name.now c.args.inv.now (map assign_tree c.args.assigns.now) c.args.targets.now read _ _ _ _ (ap found_of (sym c.in-Read.is) ∙ c.in-Ok.ensures) c.run_read.ensures

pub returns-in-Wrong : goal.returns-in-Wrong
returns-in-Wrong g c =
    found-so c.args.name.now c.args.inv.now (map assign_tree c.args.assigns.now) c.args.targets.now wrong _ _ _ _ (ap found_of (sym c.in-Wrong.is) ∙ c.in-Ok.ensures)
    (wrong-so c.args.name.now c.args.inv.now (map assign_tree c.args.assigns.now) c.args.targets.now _ _ _ c.run_in_redirections.ensures)

pub returns-in-RefersBack : goal.returns-in-RefersBack
returns-in-RefersBack g c =
    found-so c.args.name.now c.args.inv.now (map assign_tree c.args.assigns.now) c.args.targets.now (refers_back c.in-RefersBack.pattern) _ _ _ _ (ap found_of (sym c.in-RefersBack.is) ∙ c.in-Ok.ensures)
    (refers-so c.args.name.now c.args.inv.now (map assign_tree c.args.assigns.now) c.args.targets.now c.in-RefersBack.pattern _ _ _ _ _)

pub returns-in-Err : goal.returns-in-Err
returns-in-Err g c =
    wanted (found_so c.args.name.now c.args.inv.now (map assign_tree c.args.assigns.now) c.args.targets.now (patterns_of (command_of c.args.inv.now))) _
    (found-adds c.args.name.now c.args.inv.now (map assign_tree c.args.assigns.now) c.args.targets.now (patterns_of (command_of c.args.inv.now)))
