use Rattle.std.proofs.Common.{ap, rules}
use Rattle.sh_eval.specs.Inner.Teeing.{made_of}
use Rattle.sh_eval.specs.Redirections.{file_begun}
use Rattle.sh_eval.specs.States.{in_world}
use Rattle.sh_eval.specs.Teeing.{Made, with_file}
use Rattle.sh_eval.proofs.OpeningLemmas.{if_err}
use Rattle.sh_eval.proofs.TeeingSteps.{begins-file, fails-by, fails-wanted, kept-begun, on_ok, there-file}
use Rattle.sh_eval.proofs.teeing.begin_path.Goals as goal

pub returns-in-Ok-clause-begins : goal.returns-in-Ok-clause-begins
returns-in-Ok-clause-begins g c =
    on_ok c.add_file.result (λ added. begins-file c.args.anew c.args.path (made_of c.args.begun.now) _ (g.T.Tree.state c.args.tree.now) (g.T.Tree.state c.begin_file.new.tree) c.in-Ok.ensures.held c.in-Ok.ensures.lent added) c.add_file.ensures.added

pub returns-in-Ok-clause-there : goal.returns-in-Ok-clause-there
returns-in-Ok-clause-there g c =
    on_ok c.add_file.result (λ added. there-file c.args.anew c.args.path c.args.begun.now.files.items _ (g.T.Tree.state c.args.tree.now).held (g.T.Tree.state c.begin_file.new.tree).held c.in-Ok.ensures.held (ap (λ (it : Made). it.files) added)) c.add_file.ensures.added

pub returns-in-Ok-clause-err : goal.returns-in-Ok-clause-err
returns-in-Ok-clause-err g c =
    if_err c.add_file.result (λ how memory. fails-wanted (λ next state. next (with_file c.args.path (made_of c.args.begun.now)) (in_world (file_begun c.args.anew c.args.path) state)) how
    (g.T.Tree.state c.args.tree.now) (g.T.Tree.state c.begin_file.new.tree) _ _
    (kept-begun c.args.anew c.args.path (made_of c.args.begun.now) (g.T.Tree.state c.args.tree.now) (g.T.Tree.state c.begin_file.new.tree) c.in-Ok.ensures.kept) memory c.in-Ok.ensures.lent c.in-Ok.ensures.ok)
    c.add_file.ensures.memory

pub returns-in-Err-clause-err : goal.returns-in-Err-clause-err
returns-in-Err-clause-err g c =
    fails-by (λ next state. next (with_file c.args.path (made_of c.args.begun.now)) (in_world (file_begun c.args.anew c.args.path) state)) c.in-Err.error _
    (g.T.Tree.state c.args.tree.now) (g.T.Tree.state c.begin_file.new.tree) _ _
    (kept-begun c.args.anew c.args.path (made_of c.args.begun.now) (g.T.Tree.state c.args.tree.now) (g.T.Tree.state c.begin_file.new.tree) c.begin_file.ensures.kept)
    c.how_of.ensures c.begin_file.ensures.lent c.begin_file.ensures.later (λ failed. c.begin_file.ensures.failed (search rules))
