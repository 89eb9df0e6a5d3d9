use Rattle.fl_nodes.specs.Points.{point}
use Rattle.fl_nodes.proofs.WorkLemmas.{took_outside}
use Rattle.fl_nodes.proofs.work.take_from_outside.Goals as goal

pub returns : goal.returns
returns g c =
    took_outside (point g.M.Machine.state g.E.OwnEnd.state c.args.worker.now) (g.M.Machine.state c.hand_in-worker.new.machine) (g.E.OwnEnd.state c.receive-piece.new.own) c.receive-piece.result.1 c.hand_in-worker.result c.args.port c.receive-piece.result.0
    c.requires.reads c.requires.turn c.requires.may c.receive-piece.ensures c.hand_in-worker.ensures.run c.hand_in-worker.ensures.fault c.hand_in-worker.ensures.some
