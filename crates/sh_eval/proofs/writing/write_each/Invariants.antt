use Rattle.std.proofs.Common.{ℕ, drop, IfSome}
use Rattle.fl_commands.specs.Writers.{AreFilesAt}
use Rattle.sh_eval.specs.Contract.{Evaluates, Point, Seen, faults_of, point_of}
use Rattle.sh_eval.specs.States.{on}
use Rattle.sh_eval.specs.Teeing.{writes}
use Rattle.sh_eval.specs.declared.outcomes.How.{How}
use Rattle.sh_eval.specs.declared.session.Session.{Session}
use Rattle.sh_eval.specs.declared.shell.Shell.{Shell}
use Rattle.sh_eval.proofs.writing.write_each.Given as goal

-- what comes of the files that are left comes of all
abbrev pub invariant-loop-file : goal.invariant-loop-file
invariant-loop-file g l = record {
  rest : (shell : Shell) (session : Session) (seen : Seen) (input output errors : ℕ) (came : How) (new : Point)
      → Evaluates (λ expansions state. on (writes (drop l.file-index l.fn.files) l.fn.bytes state)) (point_of shell session (g.T.Tree.state l.tree) seen (faults_of input output errors (g.T.Tree.faults l.tree))) came new
      → Evaluates (λ expansions state. on (writes l.fn.files l.fn.bytes state)) (point_of shell session (g.T.Tree.state l.fn.tree) seen (faults_of input output errors (g.T.Tree.faults l.fn.tree))) came new;
  there : IfSome (g.T.Tree.state l.tree).held (λ held. AreFilesAt held (drop l.file-index l.fn.files));
}
