use Rattle.std.proofs.Common.{◌∙◌, [], map, sym}
use Rattle.sh_eval.specs.Inner.Bodies.{assign_tree}
use Rattle.sh_eval.proofs.BuiltLemmas.{built-so}
use Rattle.sh_eval.proofs.SimpleSteps.{built-found, own-named, tee-so}
use Rattle.sh_eval.proofs.simple.run_inv.Goals as goal

pub returns-then-is_builtin : goal.returns-then-is_builtin
returns-then-is_builtin g c = own-named _ _ [] _ (map assign_tree c.args.assigns.now) c.args.targets.now _ _ _ (sym (c.is_builtin.ensures _ _) ∙ c.if-is_builtin.true) c.run_in_redirections.ensures

pub run_few_files-requires-clause-tee : goal.run_few_files-requires-clause-tee
run_few_files-requires-clause-tee g c κs within = sym c.is_tee.ensures ∙ c.if-is_tee.true

pub returns-then-is_tee : goal.returns-then-is_tee
returns-then-is_tee g c = tee-so _ c.args.inv.now (map assign_tree c.args.assigns.now) c.args.targets.now _ _ _ (sym c.is_tee.ensures ∙ c.if-is_tee.true) c.run_few_files.ensures

pub run_built-requires-clause-built : goal.run_built-requires-clause-built
run_built-requires-clause-built g c κs within =
    built-so c.args.inv.now (sym (c.is_builtin.ensures [] []) ∙ c.if-is_builtin.false)

pub returns : goal.returns
returns g c =
    built-found _ c.args.inv.now (map assign_tree c.args.assigns.now) c.args.targets.now _ _ _
    (built-so c.args.inv.now (sym (c.is_builtin.ensures [] []) ∙ c.if-is_builtin.false)) (sym c.is_tee.ensures ∙ c.if-is_tee.false) c.run_built.ensures
