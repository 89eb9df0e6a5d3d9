use Rattle.std.proofs.Common.{ap, sym, ◌∙◌, Ok}
use Rattle.fl_net.specs.Stuck.{IsStuck}
use Rattle.fl_net.proofs.PointLemmas.{advances_on, halts_behind}
use Rattle.fl_net.proofs.StuckLemmas.{said_of}
use Rattle.fl_net.proofs.TurnLemmas.{step_halts}
use Rattle.fl_net.proofs.nets.Net.run.Goals as goal

pub loop-preserved : goal.loop-preserved
loop-preserved g c = (
  advances_on g.M.Machine.state _ _ c.loop.invariant.0 _ c.in-Ok-true.ensures.ok,
  c.sweep.ensures.buffer ∙ c.loop.invariant.1,
  c.sweep.ensures.borrows ∙ c.loop.invariant.2,
  c.sweep.ensures.rooms ∙ c.loop.invariant.3,
)

pub returns-clause-err : goal.returns-clause-err
returns-clause-err g c =
    halts_behind g.M.Machine.state
    _ _ c.loop.invariant.0 (g.E.NodeEnds.taken c.loop.ends)
    (step_halts _ c.loop.self.ports.items c.loop.self.machines.items c.loop.self.wires.items (g.E.NodeEnds.left c.loop.ends) (g.E.NodeEnds.taken c.loop.ends))

pub returns-in-Ok-false-clause-stuck : goal.returns-in-Ok-false-clause-stuck
returns-in-Ok-false-clause-stuck g c =
    let is = c.in-Ok-false.is ∙ ap (λ it. Ok it) c.in-Ok-false.field-0-test in
    let same = c.sweep.ensures.same is in
    said_of g.M.Machine.state _ _ _ _ (IsStuck g.M.Machine.state) _ _ _ _
    (sym c.in-Ok-false.ensures.ok.ports) (sym same.0) (ap (λ it. it.items) (sym c.sweep.ensures.rooms)) (sym same.1) (c.sweep.ensures.stuck is)
