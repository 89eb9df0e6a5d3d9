use Rattle.std.proofs.Common.{map}
use Rattle.ut_args.specs.Invocations.{command_of}
use Rattle.sh_eval.specs.Inner.Bodies.{assign_tree}
use Rattle.sh_eval.proofs.SimpleSteps.{invoked, words-so}
use Rattle.sh_eval.proofs.simple.run_named.Goals as goal

pub returns-in-Ok : goal.returns-in-Ok
returns-in-Ok g c =
    invoked _ _ _ _ (map assign_tree c.args.assigns.now) c.args.targets.now _ _ _ c.in-Ok.ensures.command
    (words-so c.args.name.now _ _ (command_of c.in-Ok.inv) (map assign_tree c.args.assigns.now) c.args.targets.now _ _ _ c.in-Ok.ensures.words c.run_inv-played.ensures)

pub returns-in-Err : goal.returns-in-Err
returns-in-Err g c = c.run_fault.ensures _ _ _ c.in-Err.ensures.fault
