use Rattle.std.proofs.Common.{true, false, ℕ, List, refl, subst}
use Rattle.sh_tree.specs.declared.commands.How.TheVariants as how
use Rattle.sh_eval.specs.States.{State}
use Rattle.sh_eval.specs.Contract.{point_of, faults_of}
use Rattle.sh_eval.specs.Redirections.{reading_at, writing_at, named_by, leading, led_to}
use Rattle.sh_eval.proofs.RedirectionSteps.{at-how}
use Rattle.sh_eval.specs.Redirecting.{Does}
use Rattle.sh_eval.proofs.redirections.redirect.Goals as goal

pub returns-in-Read-clause-does : goal.returns-in-Read-clause-does
returns-in-Read-clause-does g c =
    λ shell seen input output errors. at-how c.args.target.now how.Read (λ (state : State). reading_at c.args.target.now.text (named_by state c.args.target.now.text) state) (point_of shell c.args.session.now (g.T.Tree.state c.args.tree.now) seen (faults_of input output errors (g.T.Tree.faults c.args.tree.now))) (point_of shell c.read_from.new.session (g.T.Tree.state c.read_from.new.tree) seen (faults_of input output errors (g.T.Tree.faults c.read_from.new.tree))) c.read_from.result c.in-Read.is (λ state. refl)
    (subst (λ (it : List ℕ). Does (λ (state : State). reading_at it (named_by state it) state) (point_of shell c.args.session.now (g.T.Tree.state c.args.tree.now) seen (faults_of input output errors (g.T.Tree.faults c.args.tree.now))) (point_of shell c.read_from.new.session (g.T.Tree.state c.read_from.new.tree) seen (faults_of input output errors (g.T.Tree.faults c.read_from.new.tree))) c.read_from.result) c.as_slice-text.ensures (c.read_from.ensures.does shell seen input output errors))

pub returns-in-Write-clause-does : goal.returns-in-Write-clause-does
returns-in-Write-clause-does g c =
    λ shell seen input output errors. at-how c.args.target.now how.Write (λ (state : State). writing_at true c.args.target.now.number c.args.target.now.text (named_by state c.args.target.now.text) state) (point_of shell c.args.session.now (g.T.Tree.state c.args.tree.now) seen (faults_of input output errors (g.T.Tree.faults c.args.tree.now))) (point_of shell c.write_to_file.new.session (g.T.Tree.state c.write_to_file.new.tree) seen (faults_of input output errors (g.T.Tree.faults c.write_to_file.new.tree))) c.write_to_file.result c.in-Write.is (λ state. refl)
    (subst (λ (it : List ℕ). Does (λ (state : State). writing_at true c.args.target.now.number it (named_by state it) state) (point_of shell c.args.session.now (g.T.Tree.state c.args.tree.now) seen (faults_of input output errors (g.T.Tree.faults c.args.tree.now))) (point_of shell c.write_to_file.new.session (g.T.Tree.state c.write_to_file.new.tree) seen (faults_of input output errors (g.T.Tree.faults c.write_to_file.new.tree))) c.write_to_file.result) c.as_slice-text.ensures (c.write_to_file.ensures.does shell seen input output errors))

pub returns-in-Append-clause-does : goal.returns-in-Append-clause-does
returns-in-Append-clause-does g c =
    λ shell seen input output errors. at-how c.args.target.now how.Append (λ (state : State). writing_at false c.args.target.now.number c.args.target.now.text (named_by state c.args.target.now.text) state) (point_of shell c.args.session.now (g.T.Tree.state c.args.tree.now) seen (faults_of input output errors (g.T.Tree.faults c.args.tree.now))) (point_of shell c.write_to_file-in-Append.new.session (g.T.Tree.state c.write_to_file-in-Append.new.tree) seen (faults_of input output errors (g.T.Tree.faults c.write_to_file-in-Append.new.tree))) c.write_to_file-in-Append.result c.in-Append.is (λ state. refl)
    (subst (λ (it : List ℕ). Does (λ (state : State). writing_at false c.args.target.now.number it (named_by state it) state) (point_of shell c.args.session.now (g.T.Tree.state c.args.tree.now) seen (faults_of input output errors (g.T.Tree.faults c.args.tree.now))) (point_of shell c.write_to_file-in-Append.new.session (g.T.Tree.state c.write_to_file-in-Append.new.tree) seen (faults_of input output errors (g.T.Tree.faults c.write_to_file-in-Append.new.tree))) c.write_to_file-in-Append.result) c.as_slice-text.ensures (c.write_to_file-in-Append.ensures.does shell seen input output errors))

pub returns-in-Copy-clause-does : goal.returns-in-Copy-clause-does
returns-in-Copy-clause-does g c =
    λ shell seen input output errors. at-how c.args.target.now how.Copy (λ (state : State). leading c.args.target.now.number (led_to c.args.target.now.text state.session.streams) state) (point_of shell c.args.session.now (g.T.Tree.state c.args.tree.now) seen (faults_of input output errors (g.T.Tree.faults c.args.tree.now))) (point_of shell c.copy.new.session (g.T.Tree.state c.args.tree.now) seen (faults_of input output errors (g.T.Tree.faults c.args.tree.now))) c.copy.result c.in-Copy.is (λ state. refl)
    (subst (λ (it : List ℕ). Does (λ (state : State). leading c.args.target.now.number (led_to it state.session.streams) state) (point_of shell c.args.session.now (g.T.Tree.state c.args.tree.now) seen (faults_of input output errors (g.T.Tree.faults c.args.tree.now))) (point_of shell c.copy.new.session (g.T.Tree.state c.args.tree.now) seen (faults_of input output errors (g.T.Tree.faults c.args.tree.now))) c.copy.result) c.as_slice-text.ensures
    (c.copy.ensures.does shell (g.T.Tree.state c.args.tree.now) seen (faults_of input output errors (g.T.Tree.faults c.args.tree.now))))
