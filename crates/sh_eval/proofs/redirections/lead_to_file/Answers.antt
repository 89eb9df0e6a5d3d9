use Rattle.std.proofs.Common.{rules, ℕ, refl, ap}
use Rattle.sh_eval.specs.declared.streams.To.TheVariants as to
use Rattle.sh_eval.specs.States.{in_world}
use Rattle.sh_eval.specs.Contract.{point_of, faults_of}
use Rattle.sh_eval.specs.Redirections.{leading, file_begun}
use Rattle.sh_eval.proofs.RedirectionSteps.{led-begun, breaks-begun, stops-tree}
use Rattle.sh_eval.proofs.redirections.lead_to_file.Goals as goal

pub returns-in-Ok-clause-does : goal.returns-in-Ok-clause-does
returns-in-Ok-clause-does g c =
    λ shell seen input output errors. led-begun (λ state. leading c.args.number (to.File c.args.path) (in_world (file_begun c.args.anew c.args.path) state)) c.args.anew c.args.number c.args.path shell _ _ _ _ seen _ _ (λ state. refl)
    c.lead.ensures c.in-Ok.ensures.held c.in-Ok.ensures.lent (ap (λ (it : ℕ). faults_of input output errors it) c.in-Ok.ensures.ok)

pub returns-in-Err-clause-does : goal.returns-in-Err-clause-does
returns-in-Err-clause-does g c =
    λ shell seen input output errors. stops-tree (λ state. leading c.args.number (to.File c.args.path) (in_world (file_begun c.args.anew c.args.path) state)) (point_of shell c.args.session.now (g.T.Tree.state c.args.tree.now) seen (faults_of input output errors (g.T.Tree.faults c.args.tree.now))) (point_of shell c.args.session.now (g.T.Tree.state c.begin_file.new.tree) seen (faults_of input output errors (g.T.Tree.faults c.begin_file.new.tree))) _ c.of_tree.result c.of_tree.ensures
    (breaks-begun c.args.number c.args.anew c.args.path shell _ _ _ seen input output errors _ _ c.begin_file.ensures.kept c.begin_file.ensures.lent c.begin_file.ensures.later) (λ is. c.begin_file.ensures.failed (search rules))
