use Rattle.std.proofs.Common.{map}
use Rattle.sh_eval.specs.Inner.Bodies.{assign_tree}
use Rattle.sh_eval.proofs.SimpleSteps.{few-counted, few-enough, many-so, too-many, utility-runs}
use Rattle.sh_eval.proofs.simple.run_read.Goals as goal

pub returns-then-operands-gt-MAX_OPERANDS : goal.returns-then-operands-gt-MAX_OPERANDS
returns-then-operands-gt-MAX_OPERANDS g c =
    too-many _ c.args.inv.now (map assign_tree c.args.assigns.now) c.args.targets.now _ _ _ _ _ (many-so c.args.inv.now _ c.operands.ensures c.if-operands-gt-MAX_OPERANDS.true)

pub returns : goal.returns
returns g c =
    utility-runs _ c.args.inv.now (map assign_tree c.args.assigns.now) c.args.targets.now _ _ _
    (few-counted c.args.inv.now (few-enough c.args.inv.now _ c.operands.ensures c.if-operands-gt-MAX_OPERANDS.false)) c.run_in_redirections.ensures
