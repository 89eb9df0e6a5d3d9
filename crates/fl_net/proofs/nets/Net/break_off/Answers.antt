use Rattle.std.proofs.Common.{rules, refl, length, false}
use Rattle.std.proofs.lemmas.Option.{slice_get_read}
use Rattle.fl_net.specs.Steps.{Broke}
use Rattle.fl_net.proofs.BroughtLemmas.{broken_brings}
use Rattle.fl_net.proofs.NetLemmas.{fails_broke, broken_here}
use Rattle.fl_net.proofs.OuterLemmas.{fails_over}
use Rattle.fl_net.proofs.OutsideLemmas.{some_at}
use Rattle.fl_net.proofs.nets.Net.break_off.Goals as goal

pub returns-clause-over : goal.returns-clause-over
returns-clause-over g c = λ cells inputs moves failed runs.
    let net = c.args.self.now in
    let at = slice_get_read net.machines.items (length net.machines.items) c.args.node c.index_mut.result.now refl c.requires.node.0 (search rules) in
    let own = some_at net.ports.items c.args.node c.requires.node.1 in
    let broke : Broke (g.M.Machine.state c.index_mut.result.now) (g.M.Machine.state c.break_machine.new.machine) =
    record { runs = λ start taken put run. c.break_machine.ensures.run start taken put _ run; broken = c.break_machine.ensures.broken } in
    fails_over g.M.Machine.state net.ports.items net.machines.items _ net.wires.items net.wires.items c.args.node false cells inputs moves failed
    (fails_broke g.M.Machine.state net.ports.items net.machines.items _ net.wires.items net.wires.items c.args.node c.index_mut.result.now c.break_machine.new.machine at refl broke refl)
    (search rules) refl
    (broken_brings g.M.Machine.state net.ports.items net.machines.items _ net.wires.items net.wires.items c.args.node c.index_mut.result.now c.break_machine.new.machine own.0 at own.1 refl
    own.0.ins.items own.0.outs.items refl refl broke refl cells inputs moves failed runs)
    runs

pub returns-clause-broken : goal.returns-clause-broken
returns-clause-broken g c = λ machine at. broken_here g.M.Machine.state c.args.self.now.machines.items c.args.node c.break_machine.new.machine c.break_machine.ensures.broken machine at
