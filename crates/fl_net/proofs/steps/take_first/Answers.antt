use Rattle.fl_net.proofs.StepLemmas.{refused_first, took_first}
use Rattle.fl_net.proofs.steps.take_first.Goals as goal

pub returns-in-Ok-clause-took : goal.returns-in-Ok-clause-took
returns-in-Ok-clause-took g c = λ _.
    took_first (g.M.Machine.state c.args.machine.now) (g.M.Machine.state c.take_piece.new.machine) c.args.port c.in-Some.piece c.args.wire.now c.pop.new.self
    c.requires.turn c.in-Some.ensures.some c.in-Ok.ensures.run c.in-Ok.ensures.broken

pub returns-in-Err-clause-refused : goal.returns-in-Err-clause-refused
returns-in-Err-clause-refused g c =
    refused_first (g.M.Machine.state c.args.machine.now) (g.M.Machine.state c.take_piece.new.machine) c.args.port c.in-Some.piece c.args.wire.now c.pop.new.self
    c.requires.turn c.in-Some.ensures.some c.in-Err.ensures.run
