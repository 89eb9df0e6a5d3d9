-- A node that is run is at an end of the graph, runs a utility, or has a joint.
use Rattle.std.proofs.Common.{◌≡◌, true, false, ◌||◌, refl, sym}
use Rattle.std.proofs.lemmas.Bool.{true≢false}
use Rattle.ut_args.specs.declared.invocations.Inv.TheVariants as inv
use Rattle.fl_graph.specs.declared.kinds.NodeKind.{NodeKind}
use Rattle.fl_graph.specs.declared.kinds.NodeKind.TheVariants as kind
use Rattle.fl_classes.specs.Flow.{is_source}
use Rattle.fl_classes.specs.Kinds.{is_run, is_sink}
use Rattle.fl_machines.specs.Kinds.{runs_utility}
use Rattle.fl_joints.specs.Joints.{is_joint}

pub joint_if_run : (it : NodeKind) → is_run it ≡ true → (is_source it || is_sink it) ≡ false → runs_utility it ≡ false → is_joint it ≡ true
joint_if_run (kind.Source source) run ends runs = absurd (true≢false ends)
joint_if_run (kind.Sink sink) run ends runs = absurd (true≢false ends)
joint_if_run (kind.Map inv) run ends runs = absurd (true≢false runs)
joint_if_run (kind.Whole inv) run ends runs = absurd (true≢false runs)
joint_if_run (kind.Finish inv) run ends runs = absurd (true≢false runs)
joint_if_run (kind.Agg (inv.Wc wc)) run ends runs = refl
joint_if_run (kind.Agg (inv.Grep grep)) run ends runs = run
joint_if_run (kind.Agg (inv.Uniq uniq)) run ends runs = refl
joint_if_run (kind.Agg (inv.Tr tr)) run ends runs = refl
joint_if_run (kind.Agg (inv.Head head)) run ends runs = refl
joint_if_run (kind.Agg (inv.Tail tail)) run ends runs = run
joint_if_run (kind.Agg (inv.Sort sort)) run ends runs = refl
joint_if_run (kind.Agg other) run ends runs = absurd (true≢false (sym run))
joint_if_run other run ends runs = refl
