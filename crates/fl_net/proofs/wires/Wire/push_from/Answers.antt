use Rattle.std.proofs.Common.{rules}
use Rattle.fl_net.proofs.StepLemmas.{gave_last}
use Rattle.fl_net.proofs.wires.Wire.push_from.Goals as goal

pub returns-then-is_err-clause-refused : goal.returns-then-is_err-clause-refused
returns-then-is_err-clause-refused g c =
    record { runs = λ start taken put run. c.break_machine.ensures.run start taken put _ run; broken = c.break_machine.ensures.broken }

pub returns-in-Err-clause-refused : goal.returns-in-Err-clause-refused
returns-in-Err-clause-refused g c =
    record { runs = λ start taken put run. c.in-Err.ensures.run start taken put _ run; broken = c.in-Err.ensures.memory.1 }

pub returns-clause-gave : goal.returns-clause-gave
returns-clause-gave g c =
    gave_last (g.M.Machine.state c.args.machine.now) (g.M.Machine.state c.put_piece.new.machine) c.in-Ok.piece c.args.self.now c.push_back.new.self.items
    c.a_piece_has_bytes.ensures (search rules) c.in-Ok.ensures.run c.in-Ok.ensures.plain c.requires.plain c.in-Ok.ensures.sound c.in-Ok.ensures.broken
