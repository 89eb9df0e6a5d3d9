use Rattle.fl_nodes.specs.Points.{point}
use Rattle.fl_nodes.proofs.WorkLemmas.{drawn, held, wanted_memory}
use Rattle.fl_nodes.proofs.work.put.Goals as goal

pub send-requires : goal.send-requires
send-requires g c =
    held (point g.M.Machine.state g.E.OwnEnd.state c.args.worker.now) (g.M.Machine.state c.draw.new.machine) c.args.port c.in-Ok.piece c.requires.way c.requires.turn c.requires.may
    c.in-Ok.ensures.run c.in-Ok.ensures.plain c.in-Ok.ensures.same

pub returns-in-Ok : goal.returns-in-Ok
returns-in-Ok g c = λ from fits reached.
    c.send.ensures from fits
    (drawn (point g.M.Machine.state g.E.OwnEnd.state c.args.worker.now) (g.M.Machine.state c.draw.new.machine) c.args.port c.in-Ok.piece c.requires.turn c.requires.may
    c.in-Ok.ensures.run c.in-Ok.ensures.plain c.in-Ok.ensures.same from fits reached)

pub returns-in-Err : goal.returns-in-Err
returns-in-Err g c = wanted_memory (point g.M.Machine.state g.E.OwnEnd.state c.args.worker.now) (g.M.Machine.state c.draw.new.machine) c.in-Err.ensures.run c.wanted-worker.result c.wanted-worker.ensures
