use Rattle.std.proofs.Common.{rules, ap, sym, subst}
use Rattle.ps_world.specs.TreeState.{TreeState, Balanced}
use Rattle.ps_world.proofs.TreeStateLemmas.{balanced-none}
use Rattle.ps_world.specs.declared.places.Place.{Place}
use Rattle.sh_eval.specs.States.{State}
use Rattle.sh_eval.specs.Contract.{point_of, faults_of}
use Rattle.sh_eval.specs.Redirections.{writing_at, named_by}
use Rattle.sh_eval.proofs.RedirectionSteps.{breaks-tree, writes-more, stops-tree, does-looked}
use Rattle.sh_eval.proofs.redirections.write_to_file.Goals as goal

pub returns-in-Ok-clause-does : goal.returns-in-Ok-clause-does
returns-in-Ok-clause-does g c =
    λ shell seen input output errors. does-looked (λ (it : Place) (state : State). writing_at c.args.anew c.args.number c.args.text.now it state) c.args.text.now c.in-Ok.place shell c.args.session.now (g.T.Tree.state c.args.tree.now) (g.T.Tree.state c.look.new.tree) seen input output errors (g.T.Tree.faults c.args.tree.now) (g.T.Tree.faults c.look.new.tree)
    (point_of shell c.write_at.new.session (g.T.Tree.state c.write_at.new.tree) seen (faults_of input output errors (g.T.Tree.faults c.write_at.new.tree))) c.write_at.result
    c.in-Ok.ensures.place c.in-Ok.ensures.state c.in-Ok.ensures.cause.ok (c.write_at.ensures.does shell seen input output errors)

pub returns-in-Err-clause-does : goal.returns-in-Err-clause-does
returns-in-Err-clause-does g c =
    λ shell seen input output errors. stops-tree (λ (state : State). writing_at c.args.anew c.args.number c.args.text.now (named_by state c.args.text.now) state) (point_of shell c.args.session.now (g.T.Tree.state c.args.tree.now) seen (faults_of input output errors (g.T.Tree.faults c.args.tree.now))) (point_of shell c.args.session.now (g.T.Tree.state c.look.new.tree) seen (faults_of input output errors (g.T.Tree.faults c.look.new.tree))) _ c.of_tree.result c.of_tree.ensures
    (breaks-tree (λ (state : State). writing_at c.args.anew c.args.number c.args.text.now (named_by state c.args.text.now) state) shell _ _ _ seen input output errors _ _ (writes-more c.args.anew c.args.number c.args.text.now) (ap (λ (it : TreeState). it.held) c.look.ensures.state) (subst (λ (it : TreeState). Balanced (g.T.Tree.state c.args.tree.now) it) (sym c.look.ensures.state) (balanced-none (g.T.Tree.state c.args.tree.now))) c.look.ensures.cause.later)
    (λ is. c.look.ensures.cause.failed (search rules))
