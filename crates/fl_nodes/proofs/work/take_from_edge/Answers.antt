use Rattle.std.proofs.Common.{rules}
use Rattle.fl_nodes.specs.Points.{point}
use Rattle.fl_nodes.proofs.WorkLemmas.{edge-open, took_edge}
use Rattle.fl_nodes.proofs.work.take_from_edge.Goals as goal

pub take_at-piece-requires-clause-known : goal.take_at-piece-requires-clause-known
take_at-piece-requires-clause-known g c = let known = (edge-open (point g.M.Machine.state g.E.OwnEnd.state c.args.worker.now) c.args.port c.requires.way c.requires.reads c.requires.turn c.requires.may).0 in search rules

pub take_at-piece-requires-clause-opened : goal.take_at-piece-requires-clause-opened
take_at-piece-requires-clause-opened g c = (edge-open (point g.M.Machine.state g.E.OwnEnd.state c.args.worker.now) c.args.port c.requires.way c.requires.reads c.requires.turn c.requires.may).1

pub returns : goal.returns
returns g c =
    took_edge (point g.M.Machine.state g.E.OwnEnd.state c.args.worker.now) (g.M.Machine.state c.hand_in-worker.new.machine) c.take_at-piece.new.takers.items c.hand_in-worker.result c.args.port c.take_at-piece.result
    c.requires.reads c.requires.turn c.take_at-piece.ensures.same c.take_at-piece.ensures.taken c.hand_in-worker.ensures.run c.hand_in-worker.ensures.fault c.hand_in-worker.ensures.some
