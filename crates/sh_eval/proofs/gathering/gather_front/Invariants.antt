use Rattle.std.proofs.Common.{◌≡◌, ◌≤◌, length}
use Rattle.fl_segments.specs.declared.chains.TheConstants.{MAX_STAGES}
use Rattle.sh_eval.proofs.GatheringLemmas.{GathersOn}
use Rattle.sh_eval.proofs.gathering.gather_front.Given as goal

abbrev pub invariant-loop-stage : goal.invariant-loop-stage
invariant-loop-stage g l = record {
  counted : length l.segment.members.items ≡ l.stage-index;
  within : l.stage-index ≤ length l.fn.stages;
  most : l.stage-index ≤ MAX_STAGES;
  rest : GathersOn l.fn.stages l.fn.shell l.fn.held (g.T.Tree.state l.fn.tree) l.stage-index l.segment;
  state : g.T.Tree.state l.tree ≡ g.T.Tree.state l.fn.tree;
  faults : g.T.Tree.faults l.tree ≡ g.T.Tree.faults l.fn.tree;
}
