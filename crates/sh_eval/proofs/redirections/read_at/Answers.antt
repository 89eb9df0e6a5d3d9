use Rattle.std.proofs.Common.{rules, ℕ, List, Some, Ok, Err, codes, refl, ap, ◌∙◌}
use Rattle.ps_world.proofs.TreeStateLemmas.{balanced-only_lent}
use Rattle.ps_world.specs.declared.places.Place.{Place}
use Rattle.ps_world.specs.declared.places.Place.TheVariants as place
use Rattle.sh_eval.specs.declared.streams.From.TheVariants as from
use Rattle.sh_eval.specs.States.{State, reading}
use Rattle.sh_eval.specs.Lines.{diagnostic, no_such_file, is_a_directory}
use Rattle.sh_eval.specs.Contract.{point_of, faults_of}
use Rattle.sh_eval.specs.Redirections.{reading_at}
use Rattle.sh_eval.proofs.RedirectionSteps.{led-file, led-null, breaks-tree, reading-more, stops-tree, at-place, line-at}
use Rattle.sh_eval.proofs.redirections.read_at.Goals as goal

pub returns-in-Missing-clause-does : goal.returns-in-Missing-clause-does
returns-in-Missing-clause-does g c =
    λ shell seen input output errors. line-at (λ (it : Place) (state : State). reading_at c.args.text.now it state) _ _ c.line_of.result (diagnostic (codes "pash") c.args.text.now no_such_file) (point_of shell c.args.session.now (g.T.Tree.state c.args.tree.now) seen (faults_of input output errors (g.T.Tree.faults c.args.tree.now))) c.in-Missing.is c.line_of.ensures (λ state. refl)

pub returns-in-Makeable-clause-does : goal.returns-in-Makeable-clause-does
returns-in-Makeable-clause-does g c =
    λ shell seen input output errors. line-at (λ (it : Place) (state : State). reading_at c.args.text.now it state) _ _ c.line_of-in-Makeable.result (diagnostic (codes "pash") c.args.text.now no_such_file) (point_of shell c.args.session.now (g.T.Tree.state c.args.tree.now) seen (faults_of input output errors (g.T.Tree.faults c.args.tree.now))) c.in-Makeable.is c.line_of-in-Makeable.ensures (λ state. refl)

pub returns-in-Dir-clause-does : goal.returns-in-Dir-clause-does
returns-in-Dir-clause-does g c =
    λ shell seen input output errors. line-at (λ (it : Place) (state : State). reading_at c.args.text.now it state) _ _ c.line_of-in-Dir.result (diagnostic (codes "pash") c.args.text.now is_a_directory) (point_of shell c.args.session.now (g.T.Tree.state c.args.tree.now) seen (faults_of input output errors (g.T.Tree.faults c.args.tree.now))) c.in-Dir.is c.line_of-in-Dir.ensures (λ state. refl)

pub returns-in-Ok-clause-does : goal.returns-in-Ok-clause-does
returns-in-Ok-clause-does g c =
    λ shell seen input output errors. at-place (λ (it : Place) (state : State). reading_at c.args.text.now it state) _ (place.File c.in-File.path) (point_of shell c.args.session.now (g.T.Tree.state c.args.tree.now) seen (faults_of input output errors (g.T.Tree.faults c.args.tree.now))) _ (Ok (Some c.read_instead.result)) c.in-File.is
    (led-file c.in-File.path c.args.text.now c.in-Ok.bytes.items shell c.args.session.now _ (g.T.Tree.state c.args.tree.now) _ seen _ _ c.in-Ok.ensures.text
    (c.read_instead.ensures.session ∙ ap (λ (it : List ℕ). reading (from.Kept it) c.args.session.now) c.of.ensures) c.in-Ok.ensures.lent (ap (λ (it : ℕ). faults_of input output errors it) c.in-Ok.ensures.cause.ok))

pub returns-in-Err-clause-does : goal.returns-in-Err-clause-does
returns-in-Err-clause-does g c =
    λ shell seen input output errors. at-place (λ (it : Place) (state : State). reading_at c.args.text.now it state) _ (place.File c.in-File.path) (point_of shell c.args.session.now (g.T.Tree.state c.args.tree.now) seen (faults_of input output errors (g.T.Tree.faults c.args.tree.now))) (point_of shell c.args.session.now (g.T.Tree.state c.read_file.new.tree) seen (faults_of input output errors (g.T.Tree.faults c.read_file.new.tree))) (Err c.of_tree.result) c.in-File.is
    (stops-tree (reading_at c.args.text.now (place.File c.in-File.path)) (point_of shell c.args.session.now (g.T.Tree.state c.args.tree.now) seen (faults_of input output errors (g.T.Tree.faults c.args.tree.now))) (point_of shell c.args.session.now (g.T.Tree.state c.read_file.new.tree) seen (faults_of input output errors (g.T.Tree.faults c.read_file.new.tree))) _ c.of_tree.result c.of_tree.ensures
    (breaks-tree (reading_at c.args.text.now (place.File c.in-File.path)) shell _ _ _ seen input output errors _ _ (reading-more c.args.text.now (place.File c.in-File.path)) c.read_file.ensures.lent.held (balanced-only_lent _ _ c.read_file.ensures.lent) c.read_file.ensures.cause.later) (λ is. c.read_file.ensures.cause.failed (search rules)))

pub returns-in-Null-clause-does : goal.returns-in-Null-clause-does
returns-in-Null-clause-does g c =
    λ shell seen input output errors. at-place (λ (it : Place) (state : State). reading_at c.args.text.now it state) _ place.Null (point_of shell c.args.session.now (g.T.Tree.state c.args.tree.now) seen (faults_of input output errors (g.T.Tree.faults c.args.tree.now))) _ (Ok (Some c.read_instead-in-Null.result)) c.in-Null.is
    (led-null c.args.text.now c.of-in-Null.result shell c.args.session.now _ (g.T.Tree.state c.args.tree.now) seen _ (search rules) c.read_instead-in-Null.ensures.session)
