-- At its beginning all of a joint's equation is due.
use Rattle.std.proofs.Common.{◌≡◌, ℕ, ◌<◌, ◌≤◌, ◌==◌, ◌&&◌, nat_le, nat_lt, List, Bool, true, false, drop, [], if◌then◌else◌, get_or, refl, ap, sym, ◌∙◌, subst, arith}
use Rattle.std.proofs.lemmas.Bool.{and_parts, eqb-true, leb-true}
use Rattle.ut_args.specs.declared.invocations.Inv.{Inv}
use Rattle.fl_graph.specs.Kinds.{may_have}
use Rattle.fl_graph.specs.Machines.{State}
use Rattle.fl_graph.specs.declared.kinds.NodeKind.{NodeKind}
use Rattle.fl_graph.specs.declared.kinds.NodeKind.TheVariants as kind
use Rattle.fl_classes.specs.Kinds.{run_outs}
use Rattle.fl_classes.specs.Nodes.{Begins}
use Rattle.fl_joints.proofs.ClosingLemmas.{joined_by-given}
use Rattle.fl_joints.proofs.FrontLemmas.{text-given}
use Rattle.fl_joints.proofs.TeeLemmas.{tee-given}

-- an aggregate has two ins at least, and one out
module _ (node : NodeKind) (inv : Inv) (ins outs : ℕ) (is : node ≡ kind.Agg inv) (ports : may_have node ins outs ≡ true) where
  agg-ports : (nat_le 2 ins && (outs == 1)) ≡ true
  agg-ports = ap (λ node. may_have node ins outs) (sym is) ∙ ports

  pub agg-ins : 2 ≤ ins
  agg-ins = leb-true 2 ins (and_parts (nat_le 2 ins) (outs == 1) agg-ports).0

  pub agg-begins : (state : State) → Begins (kind.Agg inv) ins 1 state → Begins node ins (run_outs node outs) state
  agg-begins state begins =
      subst (λ node. Begins node ins (run_outs node outs) state) (sym is)
      (subst (λ outs. Begins (kind.Agg inv) ins outs state) (sym (eqb-true outs 1 (and_parts (nat_le 2 ins) (outs == 1) agg-ports).1)) begins)

pub ruleset begins = (joined_by-given, text-given, tee-given)
