use Rattle.std.proofs.Common.{ap, ◌∙◌}
use Rattle.std.specs.Global.{Vec}
use Rattle.fl_net.specs.declared.nets.Ports.{Ports}
use Rattle.fl_net.proofs.PointLemmas.{advances_on, calm, turned}
use Rattle.fl_net.proofs.nets.Net.run_node.Goals as goal

pub loop-preserved : goal.loop-preserved
loop-preserved g c = (
  advances_on g.M.Machine.state _ _ c.loop.invariant.0 _
      (turned g.M.Machine.state _ _ c.in-Ok-true-turn.ensures.leads (ap (λ (it : Vec Ports). it.items) c.turn-in-loop.ensures.kept.ports) c.turn-in-loop.ensures.kept.machines c.turn-in-loop.ensures.kept.wires
      c.turn-in-loop.ensures.kept_ends.reads c.turn-in-loop.ensures.kept_ends.writes
      (calm _ _ c.in-Ok-true-turn.field-0 c.turn-in-loop.result c.turn-in-loop.ensures.cause c.in-Ok-true-turn.is) c.in-Ok-true-turn.ensures.drained),
  c.turn-in-loop.ensures.buffer ∙ c.loop.invariant.1,
  c.turn-in-loop.ensures.kept_ends.borrows ∙ c.loop.invariant.2,
  c.turn-in-loop.ensures.kept.rooms ∙ c.loop.invariant.3,
)
