use Rattle.std.proofs.Common.{◌≡◌, ℕ, drop, map}
use Rattle.sh_expand.specs.Outcomes.{Expansions}
use Rattle.sh_eval.specs.States.{Means}
use Rattle.sh_eval.specs.Contract.{Evaluates, IsSound, Point, point_of, seen_of, faults_of, Drawn}
use Rattle.sh_eval.specs.Expanding.{assigning}
use Rattle.sh_eval.specs.Inner.Bodies.{assign_tree}
use Rattle.sh_eval.specs.declared.outcomes.How.{How}
use Rattle.sh_eval.proofs.expanding.assign_all.Given as goal

-- what comes of the assignments that are left comes of all
abbrev pub invariant-loop-name : goal.invariant-loop-name
invariant-loop-name g l = record {
  rest : (next : Expansions → Means) (drawn : Drawn) (input : ℕ) (came : How) (new : Point)
      → Evaluates (λ expansions. assigning expansions (map assign_tree (drop l.name-index l.fn.assigns)) (next expansions))
      (point_of l.shell l.session (g.T.Tree.state l.tree) (seen_of drawn (g.O.Sink.taken l.out) (g.E.Sink.taken l.err)) (faults_of input (g.O.Sink.faults l.out) (g.E.Sink.faults l.err) (g.T.Tree.faults l.tree))) came new
      → Evaluates (λ expansions. assigning expansions (map assign_tree l.fn.assigns) (next expansions))
      (point_of l.fn.shell l.fn.session (g.T.Tree.state l.fn.tree) (seen_of drawn (g.O.Sink.taken l.fn.out) (g.E.Sink.taken l.fn.err)) (faults_of input (g.O.Sink.faults l.fn.out) (g.E.Sink.faults l.fn.err) (g.T.Tree.faults l.fn.tree))) came new;
  sound : IsSound l.session (g.T.Tree.state l.tree);
  session : l.session ≡ l.fn.session;
  state : g.T.Tree.state l.tree ≡ g.T.Tree.state l.fn.tree;
}
