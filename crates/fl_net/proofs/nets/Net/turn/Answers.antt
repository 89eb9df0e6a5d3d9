use Rattle.std.proofs.Common.{◌≡◌, refl, ap, sym, ◌∙◌, Ok}
use Rattle.std.specs.Global.{Vec}
use Rattle.fl_net.specs.Steps.{has_moved}
use Rattle.fl_net.specs.declared.nets.Ports.{Ports}
use Rattle.fl_net.specs.declared.steps.Progress.TheVariants.{Took, Gave}
use Rattle.fl_net.proofs.DrainLemmas.{read_drained, step_drained, write_drained}
use Rattle.fl_net.proofs.NetLemmas.{goes_fits}
use Rattle.fl_net.proofs.TurnLemmas.{step_halts, turn_reads, turn_writes, turn_read_leads, turn_write_leads, turn_halts, turn_write_halts}
use Rattle.fl_net.proofs.nets.Net.turn.Goals as goal

pub step-requires-clause-fits : goal.step-requires-clause-fits
step-requires-clause-fits g c =
    goes_fits g.M.Machine.state
    c.args.self.now.ports.items c.args.self.now.machines.items c.args.self.now.wires.items (g.E.NodeEnds.left c.args.ends.now) (g.E.NodeEnds.taken c.args.ends.now) c.requires.goes c.args.node

pub returns-in-Err-clause-halts : goal.returns-in-Err-clause-halts
returns-in-Err-clause-halts g c =
    step_halts g.M.Machine.state
    c.args.self.now.ports.items c.args.self.now.machines.items c.args.self.now.wires.items (g.E.NodeEnds.left c.args.ends.now) (g.E.NodeEnds.taken c.args.ends.now)

pub read-requires-clause-reads : goal.read-requires-clause-reads
read-requires-clause-reads g c =
    turn_reads g.M.Machine.state
    c.args.self.now.ports.items c.step.new.self.ports.items (ap (λ (it : Vec Ports). it.items) c.step.ensures.kept.ports)
    c.args.self.now.machines.items c.step.new.self.machines.items c.args.self.now.wires.items c.step.new.self.wires.items
    (g.E.NodeEnds.left c.args.ends.now) (g.E.NodeEnds.taken c.args.ends.now) c.args.node c.requires.node.1 c.step.ensures.kept.wires
    (g.E.NodeEnds.reads c.args.ends.now) (g.E.NodeEnds.writes c.args.ends.now) c.requires.ends c.reads.result c.reads.ensures c.if-reads.true

pub write-requires-clause-writes : goal.write-requires-clause-writes
write-requires-clause-writes g c =
    turn_writes g.M.Machine.state
    c.args.self.now.ports.items c.step.new.self.ports.items (ap (λ (it : Vec Ports). it.items) c.step.ensures.kept.ports)
    c.args.self.now.machines.items c.step.new.self.machines.items c.args.self.now.wires.items c.step.new.self.wires.items
    (g.E.NodeEnds.left c.args.ends.now) (g.E.NodeEnds.taken c.args.ends.now) c.args.node c.requires.node.1 c.step.ensures.kept.wires
    (g.E.NodeEnds.reads c.args.ends.now) (g.E.NodeEnds.writes c.args.ends.now) c.requires.ends c.writes.result c.writes.ensures c.if-writes.true

pub returns-in-Ok-read-clause-leads : goal.returns-in-Ok-read-clause-leads
returns-in-Ok-read-clause-leads g c =
    turn_read_leads g.M.Machine.state
    c.args.self.now.ports.items c.step.new.self.ports.items (ap (λ (it : Vec Ports). it.items) c.step.ensures.kept.ports)
    c.args.self.now.machines.items c.step.new.self.machines.items c.args.self.now.wires.items c.step.new.self.wires.items
    (g.E.NodeEnds.left c.args.ends.now) (g.E.NodeEnds.taken c.args.ends.now) c.args.node c.requires.node.1 c.step.ensures.kept.wires
    c.step.ensures.kept.machines (c.in-Ok.ensures.leads (g.E.NodeEnds.left c.args.ends.now) (g.E.NodeEnds.taken c.args.ends.now))
    _ _ _ _ c.requires.node.0 (c.step.ensures.starves (c.in-Ok.is ∙ ap (λ it. Ok it) c.in-Starves.is))
    c.reads.result c.reads.ensures c.if-reads.true c.in-Ok-read.ensures.leads

pub returns-in-Err-read-clause-halts : goal.returns-in-Err-read-clause-halts
returns-in-Err-read-clause-halts g c =
    turn_halts g.M.Machine.state
    c.args.self.now.ports.items c.step.new.self.ports.items (ap (λ (it : Vec Ports). it.items) c.step.ensures.kept.ports)
    c.args.self.now.machines.items c.step.new.self.machines.items c.args.self.now.wires.items c.step.new.self.wires.items
    (g.E.NodeEnds.left c.args.ends.now) (g.E.NodeEnds.taken c.args.ends.now) c.args.node c.requires.node.1 c.step.ensures.kept.wires
    c.step.ensures.kept.machines (c.in-Ok.ensures.leads (g.E.NodeEnds.left c.args.ends.now) (g.E.NodeEnds.taken c.args.ends.now))
    _ c.in-Err-read.ensures.halts

pub returns-in-Ok-write-clause-leads : goal.returns-in-Ok-write-clause-leads
returns-in-Ok-write-clause-leads g c =
    turn_write_leads g.M.Machine.state
    c.args.self.now.ports.items c.step.new.self.ports.items (ap (λ (it : Vec Ports). it.items) c.step.ensures.kept.ports)
    c.args.self.now.machines.items c.step.new.self.machines.items c.args.self.now.wires.items c.step.new.self.wires.items
    (g.E.NodeEnds.left c.args.ends.now) (g.E.NodeEnds.taken c.args.ends.now) c.args.node c.requires.node.1 c.step.ensures.kept.wires
    c.step.ensures.kept.machines (c.in-Ok.ensures.leads (g.E.NodeEnds.left c.args.ends.now) (g.E.NodeEnds.taken c.args.ends.now))
    _ _ _ _ c.writes.result c.writes.ensures c.if-writes.true c.in-Ok-write.ensures.leads

pub returns-in-Err-write-clause-halts : goal.returns-in-Err-write-clause-halts
returns-in-Err-write-clause-halts g c =
    turn_write_halts g.M.Machine.state
    c.args.self.now.ports.items c.step.new.self.ports.items (ap (λ (it : Vec Ports). it.items) c.step.ensures.kept.ports)
    c.args.self.now.machines.items c.step.new.self.machines.items c.args.self.now.wires.items c.step.new.self.wires.items
    (g.E.NodeEnds.left c.args.ends.now) (g.E.NodeEnds.taken c.args.ends.now) c.args.node c.requires.node.1 c.step.ensures.kept.wires
    c.step.ensures.kept.machines (c.in-Ok.ensures.leads (g.E.NodeEnds.left c.args.ends.now) (g.E.NodeEnds.taken c.args.ends.now))
    _ c.writes.result c.writes.ensures c.if-writes.true c.in-Err-write.ensures.halts

pub returns-in-Took-clause-leads : goal.returns-in-Took-clause-leads
returns-in-Took-clause-leads g c = c.in-Ok.ensures.leads (g.E.NodeEnds.left c.args.ends.now) (g.E.NodeEnds.taken c.args.ends.now)

pub returns-in-Ok-read-clause-drained : goal.returns-in-Ok-read-clause-drained
returns-in-Ok-read-clause-drained g c =
    read_drained g.M.Machine.state
    c.args.self.now.ports.items c.step.new.self.ports.items c.read.new.self.ports.items (ap (λ (it : Vec Ports). it.items) c.step.ensures.kept.ports) (ap (λ (it : Vec Ports). it.items) c.read.ensures.kept.ports)
    c.args.self.now.machines.items c.args.self.now.wires.items c.step.new.self.wires.items c.read.new.self.wires.items
    (g.E.NodeEnds.left c.args.ends.now) (g.E.NodeEnds.taken c.args.ends.now) c.requires.goes c.args.node c.requires.node.1
    (c.in-Ok.ensures.same (ap has_moved c.in-Starves.is)).1 c.reads.result c.reads.ensures c.if-reads.true c.in-Ok-read.ensures.came

pub returns-in-Ok-write-clause-drained : goal.returns-in-Ok-write-clause-drained
returns-in-Ok-write-clause-drained g c =
    write_drained g.M.Machine.state
    c.args.self.now.ports.items c.step.new.self.ports.items c.write.new.self.ports.items (ap (λ (it : Vec Ports). it.items) c.step.ensures.kept.ports) (ap (λ (it : Vec Ports). it.items) c.write.ensures.kept.ports)
    c.args.self.now.machines.items c.args.self.now.wires.items c.step.new.self.wires.items c.write.new.self.wires.items
    (g.E.NodeEnds.left c.args.ends.now) (g.E.NodeEnds.taken c.args.ends.now) c.requires.goes c.args.node c.requires.node.1
    (c.step.ensures.gave (c.in-Ok.is ∙ ap (λ it. Ok it) c.in-Gave.is)) c.writes.result c.writes.ensures c.if-writes.true c.in-Ok-write.ensures.went

pub returns-in-Took-clause-drained : goal.returns-in-Took-clause-drained
returns-in-Took-clause-drained g c =
    step_drained g.M.Machine.state
    c.args.self.now.ports.items c.step.new.self.ports.items c.step.new.self.ports.items (ap (λ (it : Vec Ports). it.items) c.step.ensures.kept.ports) refl
    c.args.self.now.machines.items c.args.self.now.wires.items c.step.new.self.wires.items c.step.new.self.wires.items
    (g.E.NodeEnds.left c.args.ends.now) (g.E.NodeEnds.taken c.args.ends.now) c.requires.goes c.args.node c.requires.node.1 c.in-Ok.progress
    (λ is. c.step.ensures.took (c.in-Ok.is ∙ ap (λ it. Ok it) is)) (λ is. c.step.ensures.gave (c.in-Ok.is ∙ ap (λ it. Ok it) is))
    (λ is own at. let differ : Took ≡ Gave = sym c.in-Took.is ∙ is in absurd (cc)) (λ rests. (c.in-Ok.ensures.same rests).1)

pub returns-in-Gave-2-clause-drained : goal.returns-in-Gave-2-clause-drained
returns-in-Gave-2-clause-drained g c =
    step_drained g.M.Machine.state
    c.args.self.now.ports.items c.step.new.self.ports.items c.step.new.self.ports.items (ap (λ (it : Vec Ports). it.items) c.step.ensures.kept.ports) refl
    c.args.self.now.machines.items c.args.self.now.wires.items c.step.new.self.wires.items c.step.new.self.wires.items
    (g.E.NodeEnds.left c.args.ends.now) (g.E.NodeEnds.taken c.args.ends.now) c.requires.goes c.args.node c.requires.node.1 c.in-Ok.progress
    (λ is. c.step.ensures.took (c.in-Ok.is ∙ ap (λ it. Ok it) is)) (λ is. c.step.ensures.gave (c.in-Ok.is ∙ ap (λ it. Ok it) is))
    (λ is own at. sym (c.writes.ensures own at) ∙ c.if-writes.false) (λ rests. (c.in-Ok.ensures.same rests).1)

pub returns-in-Gave-2-clause-leads : goal.returns-in-Gave-2-clause-leads
returns-in-Gave-2-clause-leads g c = c.in-Ok.ensures.leads (g.E.NodeEnds.left c.args.ends.now) (g.E.NodeEnds.taken c.args.ends.now)
