use Rattle.std.proofs.Common.{refl}
use Rattle.ps_world.specs.declared.places.Place.TheVariants as place
use Rattle.ps_world.proofs.TreeStateLemmas.{balanced-none}
use Rattle.sh_eval.specs.Inner.Teeing.{made_of}
use Rattle.sh_eval.specs.Teeing.{making_at}
use Rattle.sh_eval.proofs.Growing.{adds-making_at}
use Rattle.sh_eval.proofs.OpeningLemmas.{if_err}
use Rattle.sh_eval.proofs.TeeingSteps.{begins-at, begins-still, fails-at, fails-wanted, kept-same_files, on_ok}
use Rattle.sh_eval.proofs.teeing.begin_at.Goals as goal

pub returns-in-Missing-clause-begins : goal.returns-in-Missing-clause-begins
returns-in-Missing-clause-begins g c =
    on_ok c.leave_out.result (λ added. begins-still c.args.anew c.args.name.now c.args.text.now _ place.Missing (made_of c.args.begun.now) _ _ (g.T.Tree.state c.args.tree.now) c.in-Missing.is (λ next state. refl) added) c.leave_out.ensures.added

pub returns-in-Dir-clause-begins : goal.returns-in-Dir-clause-begins
returns-in-Dir-clause-begins g c =
    on_ok c.leave_out-in-Dir.result (λ added. begins-still c.args.anew c.args.name.now c.args.text.now _ _ (made_of c.args.begun.now) _ _ (g.T.Tree.state c.args.tree.now) c.in-Dir.is (λ next state. refl) added) c.leave_out-in-Dir.ensures.added

pub returns-in-Makeable-clause-begins : goal.returns-in-Makeable-clause-begins
returns-in-Makeable-clause-begins g c =
    on_ok c.begin_path.result (λ begins. begins-at c.args.anew c.args.name.now c.args.text.now _ (place.Makeable c.in-Makeable.path) (made_of c.args.begun.now) _ (g.T.Tree.state c.args.tree.now) (g.T.Tree.state c.begin_path.new.tree) c.in-Makeable.is begins) c.begin_path.ensures.begins

pub returns-in-File-clause-begins : goal.returns-in-File-clause-begins
returns-in-File-clause-begins g c =
    on_ok c.begin_path-in-File.result (λ begins. begins-at c.args.anew c.args.name.now c.args.text.now _ (place.File c.in-File.path) (made_of c.args.begun.now) _ (g.T.Tree.state c.args.tree.now) (g.T.Tree.state c.begin_path-in-File.new.tree) c.in-File.is begins) c.begin_path-in-File.ensures.begins

pub returns-clause-begins : goal.returns-clause-begins
returns-clause-begins g c =
    begins-still c.args.anew c.args.name.now c.args.text.now _ place.Null (made_of c.args.begun.now) _ _ (g.T.Tree.state c.args.tree.now) c.in-Null.is (λ next state. refl) refl

pub returns-in-Missing-clause-err : goal.returns-in-Missing-clause-err
returns-in-Missing-clause-err g c =
    if_err c.leave_out.result (λ how memory. fails-at c.args.anew c.args.name.now c.args.text.now _ place.Missing (made_of c.args.begun.now) how (g.T.Tree.state c.args.tree.now) (g.T.Tree.state c.args.tree.now) _ _ c.in-Missing.is
    (fails-wanted (making_at c.args.anew c.args.name.now c.args.text.now place.Missing (made_of c.args.begun.now)) how (g.T.Tree.state c.args.tree.now) (g.T.Tree.state c.args.tree.now) _ _
    (kept-same_files (making_at c.args.anew c.args.name.now c.args.text.now place.Missing (made_of c.args.begun.now)) (g.T.Tree.state c.args.tree.now) (g.T.Tree.state c.args.tree.now) (λ next adds. adds-making_at c.args.anew c.args.name.now c.args.text.now place.Missing (made_of c.args.begun.now) next adds) refl) memory (balanced-none (g.T.Tree.state c.args.tree.now)) refl)) c.leave_out.ensures.memory

pub returns-in-Dir-clause-err : goal.returns-in-Dir-clause-err
returns-in-Dir-clause-err g c =
    if_err c.leave_out-in-Dir.result (λ how memory. fails-at c.args.anew c.args.name.now c.args.text.now _ (place.Dir c.in-Dir.field-0) (made_of c.args.begun.now) how (g.T.Tree.state c.args.tree.now) (g.T.Tree.state c.args.tree.now) _ _ c.in-Dir.is
    (fails-wanted (making_at c.args.anew c.args.name.now c.args.text.now (place.Dir c.in-Dir.field-0) (made_of c.args.begun.now)) how (g.T.Tree.state c.args.tree.now) (g.T.Tree.state c.args.tree.now) _ _
    (kept-same_files (making_at c.args.anew c.args.name.now c.args.text.now (place.Dir c.in-Dir.field-0) (made_of c.args.begun.now)) (g.T.Tree.state c.args.tree.now) (g.T.Tree.state c.args.tree.now) (λ next adds. adds-making_at c.args.anew c.args.name.now c.args.text.now (place.Dir c.in-Dir.field-0) (made_of c.args.begun.now) next adds) refl) memory (balanced-none (g.T.Tree.state c.args.tree.now)) refl)) c.leave_out-in-Dir.ensures.memory

pub returns-in-Makeable-clause-err : goal.returns-in-Makeable-clause-err
returns-in-Makeable-clause-err g c =
    if_err c.begin_path.result (λ how fails. fails-at c.args.anew c.args.name.now c.args.text.now _ (place.Makeable c.in-Makeable.path) (made_of c.args.begun.now) how (g.T.Tree.state c.args.tree.now) (g.T.Tree.state c.begin_path.new.tree) _ _ c.in-Makeable.is fails) c.begin_path.ensures.err

pub returns-in-File-clause-err : goal.returns-in-File-clause-err
returns-in-File-clause-err g c =
    if_err c.begin_path-in-File.result (λ how fails. fails-at c.args.anew c.args.name.now c.args.text.now _ (place.File c.in-File.path) (made_of c.args.begun.now) how (g.T.Tree.state c.args.tree.now) (g.T.Tree.state c.begin_path-in-File.new.tree) _ _ c.in-File.is fails) c.begin_path-in-File.ensures.err
