use Rattle.std.proofs.Common.{ap, sym, ◌∙◌, [], if◌then◌else◌, suc, Some, length}
use Rattle.std.specs.Global.{Vec}
use Rattle.fl_net.specs.Steps.{has_moved}
use Rattle.fl_net.specs.declared.nets.Ports.{Ports}
use Rattle.fl_core.proofs.MachineLemmas.{state_of}
use Rattle.fl_net.proofs.NetLemmas.{goes_plain, goes_fits}
use Rattle.fl_tests.proofs.nets.step_each.Goals as goal

pub step-requires-clause-plain : goal.step-requires-clause-plain
step-requires-clause-plain c =
    goes_plain state_of c.loop-node.net.ports.items c.loop-node.net.machines.items c.loop-node.net.wires.items (λ node. Some []) (λ node. Some []) c.loop-node.invariant.1.over.goes

pub step-requires-clause-fits : goal.step-requires-clause-fits
step-requires-clause-fits c =
    goes_fits state_of c.loop-node.net.ports.items c.loop-node.net.machines.items c.loop-node.net.wires.items (λ node. Some []) (λ node. Some []) c.loop-node.invariant.1.over.goes c.loop-node.node

pub loop-node-preserved : goal.loop-node-preserved
loop-node-preserved c =
    let before = c.loop-node.invariant.1 in (
      c.step.ensures.kept.machines ∙ c.loop-node.invariant.0,
      record {
        cells = before.cells;
        inputs = before.inputs;
        moves = if has_moved c.in-Ok.progress then suc before.moves else before.moves;
        failed = before.failed;
        over = c.in-Ok.ensures.over before.cells before.inputs before.moves before.failed before.over;
        all_ports = ap (λ (ports : Vec Ports). length ports.items) c.step.ensures.kept.ports ∙ before.all_ports ∙ sym c.step.ensures.kept.machines;
      },
    )
