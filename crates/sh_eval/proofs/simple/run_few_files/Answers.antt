use Rattle.std.proofs.Common.{map}
use Rattle.ut_args.specs.Inputs.{files_of}
use Rattle.sh_eval.specs.Inner.Bodies.{assign_tree}
use Rattle.sh_eval.specs.Inner.Inputs.{called_by}
use Rattle.sh_eval.proofs.SimpleSteps.{files-few, files-many, tee-few, tee-many}
use Rattle.sh_eval.proofs.simple.run_few_files.Goals as goal

pub returns-then-files_written-gt-MAX_OPERANDS : goal.returns-then-files_written-gt-MAX_OPERANDS
returns-then-files_written-gt-MAX_OPERANDS g c =
    tee-many _ (called_by c.args.inv.now) (map assign_tree c.args.assigns.now) c.args.targets.now _ _ _ _ _ (files-many (files_of c.args.inv.now) _ c.files_written.ensures c.if-files_written-gt-MAX_OPERANDS.true)

pub returns : goal.returns
returns g c =
    tee-few _ (called_by c.args.inv.now) (map assign_tree c.args.assigns.now) c.args.targets.now _ _ _ (files-few (files_of c.args.inv.now) _ c.files_written.ensures c.if-files_written-gt-MAX_OPERANDS.false) c.run_in_redirections.ensures
