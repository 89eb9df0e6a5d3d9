use Rattle.std.proofs.Common.{None, Ok, codes, refl}
use Rattle.ps_world.specs.declared.places.Place.{Place}
use Rattle.ps_world.specs.declared.places.Place.TheVariants as place
use Rattle.sh_eval.specs.declared.streams.To.TheVariants as to
use Rattle.sh_eval.specs.States.{State}
use Rattle.sh_eval.specs.Lines.{diagnostic, no_such_file, is_a_directory}
use Rattle.sh_eval.specs.Contract.{point_of, faults_of}
use Rattle.sh_eval.specs.Redirections.{writing_at}
use Rattle.sh_eval.proofs.RedirectionSteps.{led-still, at-place, line-at}
use Rattle.sh_eval.proofs.redirections.write_at.Goals as goal

pub returns-in-Missing-clause-does : goal.returns-in-Missing-clause-does
returns-in-Missing-clause-does g c =
    λ shell seen input output errors. line-at (λ (it : Place) (state : State). writing_at c.args.anew c.args.number c.args.text.now it state) _ _ c.line_of.result (diagnostic (codes "pash") c.args.text.now no_such_file) (point_of shell c.args.session.now (g.T.Tree.state c.args.tree.now) seen (faults_of input output errors (g.T.Tree.faults c.args.tree.now))) c.in-Missing.is c.line_of.ensures (λ state. refl)

pub returns-in-Dir-clause-does : goal.returns-in-Dir-clause-does
returns-in-Dir-clause-does g c =
    λ shell seen input output errors. line-at (λ (it : Place) (state : State). writing_at c.args.anew c.args.number c.args.text.now it state) _ _ c.line_of-in-Dir.result (diagnostic (codes "pash") c.args.text.now is_a_directory) (point_of shell c.args.session.now (g.T.Tree.state c.args.tree.now) seen (faults_of input output errors (g.T.Tree.faults c.args.tree.now))) c.in-Dir.is c.line_of-in-Dir.ensures (λ state. refl)

pub returns-in-Makeable-clause-does : goal.returns-in-Makeable-clause-does
returns-in-Makeable-clause-does g c =
    λ shell seen input output errors. at-place (λ (it : Place) (state : State). writing_at c.args.anew c.args.number c.args.text.now it state) _ (place.Makeable c.in-Makeable.path) (point_of shell c.args.session.now (g.T.Tree.state c.args.tree.now) seen (faults_of input output errors (g.T.Tree.faults c.args.tree.now))) (point_of shell c.lead_to_file.new.session (g.T.Tree.state c.lead_to_file.new.tree) seen (faults_of input output errors (g.T.Tree.faults c.lead_to_file.new.tree))) c.lead_to_file.result c.in-Makeable.is (c.lead_to_file.ensures.does shell seen input output errors)

pub returns-in-File-clause-does : goal.returns-in-File-clause-does
returns-in-File-clause-does g c =
    λ shell seen input output errors. at-place (λ (it : Place) (state : State). writing_at c.args.anew c.args.number c.args.text.now it state) _ (place.File c.in-File.path) (point_of shell c.args.session.now (g.T.Tree.state c.args.tree.now) seen (faults_of input output errors (g.T.Tree.faults c.args.tree.now))) (point_of shell c.lead_to_file-in-File.new.session (g.T.Tree.state c.lead_to_file-in-File.new.tree) seen (faults_of input output errors (g.T.Tree.faults c.lead_to_file-in-File.new.tree))) c.lead_to_file-in-File.result c.in-File.is (c.lead_to_file-in-File.ensures.does shell seen input output errors)

pub returns-clause-does : goal.returns-clause-does
returns-clause-does g c =
    λ shell seen input output errors. at-place (λ (it : Place) (state : State). writing_at c.args.anew c.args.number c.args.text.now it state) _ place.Null (point_of shell c.args.session.now (g.T.Tree.state c.args.tree.now) seen (faults_of input output errors (g.T.Tree.faults c.args.tree.now))) _ (Ok None) c.in-Null.is
    (led-still (writing_at c.args.anew c.args.number c.args.text.now place.Null) c.args.number to.Null shell c.args.session.now _ (g.T.Tree.state c.args.tree.now) seen _ (λ base state has. refl) (λ files stands. tt) c.lead.ensures)
