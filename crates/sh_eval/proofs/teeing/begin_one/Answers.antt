use Rattle.std.proofs.Common.{Err, ap, sym, subst, IfSome}
use Rattle.ps_world.specs.TreeState.{Balanced, TreeState}
use Rattle.ps_world.proofs.TreeStateLemmas.{balanced-none}
use Rattle.fl_commands.specs.Writers.{AreFilesAt}
use Rattle.sh_eval.specs.Inner.Teeing.{made_of}
use Rattle.sh_eval.specs.Redirections.{named_by}
use Rattle.sh_eval.specs.Teeing.{making_one}
use Rattle.sh_eval.proofs.Growing.{adds-making_at}
use Rattle.sh_eval.proofs.OpeningLemmas.{if_err}
use Rattle.sh_eval.proofs.TeeingSteps.{begins-named, fails-by, fails-named, kept-same_files, on_ok}
use Rattle.sh_eval.proofs.teeing.begin_one.Goals as goal

pub returns-in-Ok-clause-begins : goal.returns-in-Ok-clause-begins
returns-in-Ok-clause-begins g c =
    on_ok c.begin_at.result (λ begins. begins-named c.args.anew c.args.name.now c.args.text.now c.in-Ok.place (made_of c.args.begun.now) _ (g.T.Tree.state c.args.tree.now) (g.T.Tree.state c.look.new.tree) (g.T.Tree.state c.begin_at.new.tree)
    c.in-Ok.ensures.place c.in-Ok.ensures.state begins) c.begin_at.ensures.begins

pub returns-in-Ok-clause-there : goal.returns-in-Ok-clause-there
returns-in-Ok-clause-there g c =
    on_ok c.begin_at.result (λ there takes. there (subst (λ (it : TreeState). IfSome it.held (λ held. AreFilesAt held c.args.begun.now.files.items)) (sym c.in-Ok.ensures.state) takes)) c.begin_at.ensures.there

pub returns-in-Ok-clause-err : goal.returns-in-Ok-clause-err
returns-in-Ok-clause-err g c =
    if_err c.begin_at.result (λ how fails. fails-named c.args.anew c.args.name.now c.args.text.now c.in-Ok.place (made_of c.args.begun.now) how (g.T.Tree.state c.args.tree.now) (g.T.Tree.state c.look.new.tree) (g.T.Tree.state c.begin_at.new.tree) _ _ _
    c.in-Ok.ensures.place c.in-Ok.ensures.state c.in-Ok.ensures.cause.ok fails) c.begin_at.ensures.err

pub returns-in-Err-clause-err : goal.returns-in-Err-clause-err
returns-in-Err-clause-err g c =
    fails-by (making_one c.args.anew c.args.name.now c.args.text.now (made_of c.args.begun.now)) c.in-Err.error _ (g.T.Tree.state c.args.tree.now) (g.T.Tree.state c.look.new.tree) _ _
    (kept-same_files (making_one c.args.anew c.args.name.now c.args.text.now (made_of c.args.begun.now)) (g.T.Tree.state c.args.tree.now) (g.T.Tree.state c.look.new.tree)
    (λ next adds state. adds-making_at c.args.anew c.args.name.now c.args.text.now (named_by state c.args.text.now) (made_of c.args.begun.now) next adds state) (ap (λ (it : TreeState). it.held) c.in-Err.ensures.state))
    c.how_of.ensures
    (subst (λ (it : TreeState). Balanced (g.T.Tree.state c.args.tree.now) it) (sym c.in-Err.ensures.state) (balanced-none (g.T.Tree.state c.args.tree.now))) c.in-Err.ensures.cause.later
    (λ failed. c.in-Err.ensures.cause.failed (ap Err failed))
