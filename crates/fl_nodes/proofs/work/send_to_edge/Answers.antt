use Rattle.std.proofs.Common.{rules}
use Rattle.fl_nodes.specs.Points.{point}
use Rattle.fl_nodes.proofs.WorkLemmas.{giver-open, refused_edge, sent_edge}
use Rattle.fl_nodes.proofs.work.send_to_edge.Goals as goal

pub put_at-requires-clause-known : goal.put_at-requires-clause-known
put_at-requires-clause-known g c = let known = (giver-open (point g.M.Machine.state g.E.OwnEnd.state c.args.worker.now) c.args.port c.args.edge c.args.piece c.requires.held c.requires.edge).0 in search rules

pub put_at-requires-clause-opened : goal.put_at-requires-clause-opened
put_at-requires-clause-opened g c = (giver-open (point g.M.Machine.state g.E.OwnEnd.state c.args.worker.now) c.args.port c.args.edge c.args.piece c.requires.held c.requires.edge).1

pub returns-in-Ok : goal.returns-in-Ok
returns-in-Ok g c = sent_edge (point g.M.Machine.state g.E.OwnEnd.state c.args.worker.now) c.put_at.new.givers.items c.args.port c.args.edge c.args.piece c.requires.edge c.in-Ok.ensures.same c.in-Ok.ensures.given

pub returns-in-Err : goal.returns-in-Err
returns-in-Err g c =
    refused_edge (point g.M.Machine.state g.E.OwnEnd.state c.args.worker.now) (g.M.Machine.state c.shut_off.new.machine) c.put_at.new.givers.items c.args.port c.args.piece c.in-Err.ensures.closing
    c.shut_off.ensures.same c.shut_off.ensures.broken c.in-Err.ensures.same c.in-Err.ensures.refused c.wanted-worker.result c.wanted-worker.ensures
