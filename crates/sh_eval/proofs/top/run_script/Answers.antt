use Rattle.sh_tree.specs.Views.{script_tree}
use Rattle.sh_eval.specs.Meaning.{begun, script_means}
use Rattle.sh_eval.specs.Table.{pages}
use Rattle.sh_eval.proofs.ScriptSteps.{script-spread}
use Rattle.sh_eval.proofs.top.run_script.Goals as goal

pub returns-clause-meaning : goal.returns-clause-meaning
returns-clause-meaning g c expansions are =
    script-spread c.args.width c.width-before.result _ _ _ _ _ _ _ _ _ _ c.spread_over.ensures c.spread_over-2.ensures c.width-before.ensures _ _ _ (g.T.Tree.state c.args.tree.now).held
    (λ files text. script_means expansions pages (script_tree c.args.script.now) (begun c.args.shell.now (g.T.Tree.state c.args.tree.now).home files text))
    (c.run_begun-played.ensures.meaning expansions are)
