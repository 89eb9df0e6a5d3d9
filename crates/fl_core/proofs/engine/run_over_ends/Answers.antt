use Rattle.std.proofs.Common.{ap, subst, arith}
use Rattle.ps_world.proofs.ToldLemmas.{grew_by_nothing}
use Rattle.fl_classes.specs.Flow.{selections}
use Rattle.fl_net.specs.Runs.{AreDrained}
use Rattle.fl_core.proofs.EngineLemmas.{all_shut, all_stop, done_counted, done_reads, done_selects, done_writes, halted_front, reached_front, reached_whole}
use Rattle.fl_net.proofs.StartLemmas.{net_under_way}
use Rattle.fl_core.proofs.engine.run_over_ends.Goals as goal

pub returns-then-len-clause-front : goal.returns-then-len-clause-front
returns-then-len-clause-front g c = λ sources told node cell at sink. grew_by_nothing _ _

pub returns-in-Err-clause-front : goal.returns-in-Err-clause-front
returns-in-Err-clause-front g c = λ sources told node cell at sink. grew_by_nothing _ _

pub returns-in-Err-piece_buffer-clause-front : goal.returns-in-Err-piece_buffer-clause-front
returns-in-Err-piece_buffer-clause-front g c = λ sources told node cell at sink. grew_by_nothing _ _

pub run-requires-clause-way : goal.run-requires-clause-way
run-requires-clause-way g c =
    net_under_way _ c.args.graph.now.nodes c.args.graph.now.status c.requires.valid _ _ _ c.in-Ok.ensures.net _ _ _ _ _ c.requires.reads c.requires.writes

pub returns-in-Err-Fault-clause-front : goal.returns-in-Err-Fault-clause-front
returns-in-Err-Fault-clause-front g c =
    halted_front _ c.args.graph.now.nodes c.args.graph.now.status c.requires.valid _ _ _ c.in-Ok.ensures.net _ _ _ c.in-Err-Fault.ensures.err

pub status-requires-clause-stopped : goal.status-requires-clause-stopped
status-requires-clause-stopped g c =
    all_stop _ c.args.graph.now.nodes c.args.graph.now.status c.requires.valid _ _ _ c.in-Ok.ensures.net (g.E.NodeEnds.left c.args.ends.now) (g.E.NodeEnds.taken c.args.ends.now)
    c.run.new.self.machines.items c.run.new.self.wires.items (g.E.NodeEnds.left c.run.new.ends) (g.E.NodeEnds.taken c.run.new.ends) c.in-Ok-run.ensures.ok.machines c.in-Ok-run.ensures.ok.leads
    _ _ _ c.in-Ok.ensures.rooms (omega arith) c.in-Ok-run.ensures.ok.wires _ c.in-Ok-run.ensures.ok.ports (ap (λ it. it.items) c.run.ensures.rooms) c.in-Ok-run.ensures.stuck

pub status-requires-clause-whole : goal.status-requires-clause-whole
status-requires-clause-whole g c =
    reached_whole _ c.args.graph.now.nodes c.args.graph.now.status c.requires.valid _ _ _ c.in-Ok.ensures.net (g.E.NodeEnds.left c.args.ends.now) (g.E.NodeEnds.taken c.args.ends.now)
    c.run.new.self.machines.items c.run.new.self.wires.items (g.E.NodeEnds.left c.run.new.ends) (g.E.NodeEnds.taken c.run.new.ends) c.in-Ok-run.ensures.ok.machines c.in-Ok-run.ensures.ok.leads

pub returns-in-Ok-run-clause-written : goal.returns-in-Ok-run-clause-written
returns-in-Ok-run-clause-written g c = λ sources told.
    done_writes _ c.args.graph.now.nodes c.args.graph.now.status c.requires.valid _ _ _ c.in-Ok.ensures.net (g.E.NodeEnds.left c.args.ends.now) (g.E.NodeEnds.taken c.args.ends.now)
    c.run.new.self.machines.items c.run.new.self.wires.items (g.E.NodeEnds.left c.run.new.ends) (g.E.NodeEnds.taken c.run.new.ends) c.in-Ok-run.ensures.ok.machines c.in-Ok-run.ensures.ok.leads
    (all_shut _ c.args.graph.now.nodes c.args.graph.now.status c.requires.valid _ _ _ c.in-Ok.ensures.net (g.E.NodeEnds.left c.args.ends.now) (g.E.NodeEnds.taken c.args.ends.now)
    c.run.new.self.machines.items c.run.new.self.wires.items (g.E.NodeEnds.left c.run.new.ends) (g.E.NodeEnds.taken c.run.new.ends) c.in-Ok-run.ensures.ok.machines c.in-Ok-run.ensures.ok.leads
    _ _ _ c.in-Ok.ensures.rooms (omega arith) c.in-Ok-run.ensures.ok.wires _ c.in-Ok-run.ensures.ok.ports (ap (λ it. it.items) c.run.ensures.rooms) c.in-Ok-run.ensures.stuck)
    sources told
    (subst (λ ports. AreDrained ports c.run.new.self.wires.items) c.in-Ok-run.ensures.ok.ports (c.in-Ok-run.ensures.ok.drained (λ node own at writes. c.in-Ok.ensures.net.none_waits _)))

pub returns-in-Ok-run-clause-read : goal.returns-in-Ok-run-clause-read
returns-in-Ok-run-clause-read g c =
    done_reads _ c.args.graph.now.nodes c.args.graph.now.status c.requires.valid _ _ _ c.in-Ok.ensures.net (g.E.NodeEnds.left c.args.ends.now) (g.E.NodeEnds.taken c.args.ends.now)
    c.run.new.self.machines.items c.run.new.self.wires.items (g.E.NodeEnds.left c.run.new.ends) (g.E.NodeEnds.taken c.run.new.ends) c.in-Ok-run.ensures.ok.machines c.in-Ok-run.ensures.ok.leads
    (all_shut _ c.args.graph.now.nodes c.args.graph.now.status c.requires.valid _ _ _ c.in-Ok.ensures.net (g.E.NodeEnds.left c.args.ends.now) (g.E.NodeEnds.taken c.args.ends.now)
    c.run.new.self.machines.items c.run.new.self.wires.items (g.E.NodeEnds.left c.run.new.ends) (g.E.NodeEnds.taken c.run.new.ends) c.in-Ok-run.ensures.ok.machines c.in-Ok-run.ensures.ok.leads
    _ _ _ c.in-Ok.ensures.rooms (omega arith) c.in-Ok-run.ensures.ok.wires _ c.in-Ok-run.ensures.ok.ports (ap (λ it. it.items) c.run.ensures.rooms) c.in-Ok-run.ensures.stuck)

pub returns-in-Ok-run-clause-status : goal.returns-in-Ok-run-clause-status
returns-in-Ok-run-clause-status g c = λ sources told.
    c.status.ensures (selections c.args.graph.now.nodes sources)
    (done_selects _ c.args.graph.now.nodes c.args.graph.now.status c.requires.valid _ _ _ c.in-Ok.ensures.net (g.E.NodeEnds.left c.args.ends.now) (g.E.NodeEnds.taken c.args.ends.now)
    c.run.new.self.machines.items c.run.new.self.wires.items (g.E.NodeEnds.left c.run.new.ends) (g.E.NodeEnds.taken c.run.new.ends) c.in-Ok-run.ensures.ok.machines c.in-Ok-run.ensures.ok.leads
    (all_shut _ c.args.graph.now.nodes c.args.graph.now.status c.requires.valid _ _ _ c.in-Ok.ensures.net (g.E.NodeEnds.left c.args.ends.now) (g.E.NodeEnds.taken c.args.ends.now)
    c.run.new.self.machines.items c.run.new.self.wires.items (g.E.NodeEnds.left c.run.new.ends) (g.E.NodeEnds.taken c.run.new.ends) c.in-Ok-run.ensures.ok.machines c.in-Ok-run.ensures.ok.leads
    _ _ _ c.in-Ok.ensures.rooms (omega arith) c.in-Ok-run.ensures.ok.wires _ c.in-Ok-run.ensures.ok.ports (ap (λ it. it.items) c.run.ensures.rooms) c.in-Ok-run.ensures.stuck)
    sources told)
    (done_counted _ c.args.graph.now.nodes c.args.graph.now.status c.requires.valid _ _ _ c.in-Ok.ensures.net (g.E.NodeEnds.left c.args.ends.now) (g.E.NodeEnds.taken c.args.ends.now)
    c.run.new.self.machines.items c.run.new.self.wires.items (g.E.NodeEnds.left c.run.new.ends) (g.E.NodeEnds.taken c.run.new.ends) c.in-Ok-run.ensures.ok.machines c.in-Ok-run.ensures.ok.leads
    (all_shut _ c.args.graph.now.nodes c.args.graph.now.status c.requires.valid _ _ _ c.in-Ok.ensures.net (g.E.NodeEnds.left c.args.ends.now) (g.E.NodeEnds.taken c.args.ends.now)
    c.run.new.self.machines.items c.run.new.self.wires.items (g.E.NodeEnds.left c.run.new.ends) (g.E.NodeEnds.taken c.run.new.ends) c.in-Ok-run.ensures.ok.machines c.in-Ok-run.ensures.ok.leads
    _ _ _ c.in-Ok.ensures.rooms (omega arith) c.in-Ok-run.ensures.ok.wires _ c.in-Ok-run.ensures.ok.ports (ap (λ it. it.items) c.run.ensures.rooms) c.in-Ok-run.ensures.stuck)
    sources told)

pub returns-in-Ok-run-clause-front : goal.returns-in-Ok-run-clause-front
returns-in-Ok-run-clause-front g c =
    reached_front _ c.args.graph.now.nodes c.args.graph.now.status c.requires.valid _ _ _ c.in-Ok.ensures.net (g.E.NodeEnds.left c.args.ends.now) (g.E.NodeEnds.taken c.args.ends.now)
    c.run.new.self.machines.items c.run.new.self.wires.items (g.E.NodeEnds.left c.run.new.ends) (g.E.NodeEnds.taken c.run.new.ends) c.in-Ok-run.ensures.ok.machines c.in-Ok-run.ensures.ok.leads

pub returns-clause-front : goal.returns-clause-front
returns-clause-front g c =
    halted_front _ c.args.graph.now.nodes c.args.graph.now.status c.requires.valid _ _ _ c.in-Ok.ensures.net _ _ _ c.in-Err-Memory.ensures.err
