use Rattle.std.proofs.Common.{drop, ℕ, IfSome}
use Rattle.ps_world.specs.Files.{NoWriterOut}
use Rattle.sh_eval.specs.declared.shell.Shell.{Shell}
use Rattle.sh_eval.specs.Contract.{Seen, point_of, faults_of}
use Rattle.sh_eval.specs.Redirections.{redirecting}
use Rattle.sh_eval.specs.Reaching.{Reaches}
use Rattle.sh_eval.proofs.RedirectionLoops.{Kept}
use Rattle.sh_eval.proofs.redirections.redirect_all.Given as goal

-- what the redirections that are left mean here is what all meant
abbrev pub invariant-loop-target : goal.invariant-loop-target
invariant-loop-target g l = record {
  reaches : (shell : Shell) (seen : Seen) (input output errors : ℕ) → Reaches (λ way. redirecting way l.fn.targets) (λ way. redirecting way (drop l.target-index l.fn.targets))
      (point_of shell l.fn.session (g.T.Tree.state l.fn.tree) seen (faults_of input output errors (g.T.Tree.faults l.fn.tree)))
      (point_of shell l.session (g.T.Tree.state l.tree) seen (faults_of input output errors (g.T.Tree.faults l.tree)));
  whole : IfSome (g.T.Tree.state l.tree).held NoWriterOut;
  kept : Kept l.fn.targets (drop l.target-index l.fn.targets) l.fn.session.streams.from l.session.streams.from l.fn.before l.before;
}
