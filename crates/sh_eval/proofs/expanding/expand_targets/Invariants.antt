use Rattle.std.proofs.Common.{◌≡◌, ℕ, List, map}
use Rattle.sh_tree.specs.Views.{redir_tree}
use Rattle.sh_expand.specs.Outcomes.{Expansions}
use Rattle.sh_eval.specs.States.{Means}
use Rattle.sh_eval.specs.Targets.{Target}
use Rattle.sh_eval.specs.Contract.{Evaluates, IsSound, Point, point_of, seen_of, faults_of, Drawn}
use Rattle.sh_eval.specs.Expanding.{with_targets}
use Rattle.sh_eval.specs.declared.outcomes.How.{How}
use Rattle.sh_eval.proofs.ExpandingSteps.{with_more}
use Rattle.sh_eval.proofs.expanding.expand_targets.Given as goal

-- what comes of the redirections that are left comes of all
abbrev pub invariant-loop-redir : goal.invariant-loop-redir
invariant-loop-redir g l = record {
  rest : (next : Expansions → List Target → Means) (drawn : Drawn) (input : ℕ) (came : How) (new : Point)
      → Evaluates (with_more l.fn.redirs l.redir-index l.targets.items next)
      (point_of l.shell l.session (g.T.Tree.state l.tree) (seen_of drawn (g.O.Sink.taken l.out) (g.E.Sink.taken l.err)) (faults_of input (g.O.Sink.faults l.out) (g.E.Sink.faults l.err) (g.T.Tree.faults l.tree))) came new
      → Evaluates (λ expansions. with_targets expansions (map redir_tree l.fn.redirs) (next expansions))
      (point_of l.fn.shell l.fn.session (g.T.Tree.state l.fn.tree) (seen_of drawn (g.O.Sink.taken l.fn.out) (g.E.Sink.taken l.fn.err)) (faults_of input (g.O.Sink.faults l.fn.out) (g.E.Sink.faults l.fn.err) (g.T.Tree.faults l.fn.tree))) came new;
  sound : IsSound l.session (g.T.Tree.state l.tree);
  session : l.session ≡ l.fn.session;
  state : g.T.Tree.state l.tree ≡ g.T.Tree.state l.fn.tree;
}
