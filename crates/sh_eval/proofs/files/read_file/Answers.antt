use Rattle.std.proofs.Common.{sym, ap, ◌∙◌, subst}
use Rattle.ps_world.specs.TreeState.{OnlyLent, take_back}
use Rattle.ps_world.proofs.TreeStateLemmas.{only_lent-one}
use Rattle.sh_eval.proofs.files.read_file.Goals as goal

pub returns-clause-lent : goal.returns-clause-lent
returns-clause-lent g c =
    subst (OnlyLent (g.T.Tree.state c.args.tree.now)) (sym (c.end_read.ensures.state ∙ ap take_back c.in_ok-reader.ensures.state)) (only_lent-one (g.T.Tree.state c.args.tree.now))
