use Rattle.std.proofs.Common.{◌≡◌, true, is_some, ap, sym, subst, ◌∙◌, rules}
use Rattle.fl_graph.specs.Machines.{is_mark, port_taken}
use Rattle.fl_graph.specs.Runs.{add, Run}
use Rattle.fl_nodes.proofs.MachineLemmas.{mark_open, mark_taken}
use Rattle.fl_nodes.proofs.MovedLemmas.{wanted-some}
use Rattle.fl_nodes.proofs.machines.hand_in.Goals as goal

pub returns-then-is_mark-clause-run : goal.returns-then-is_mark-clause-run
returns-then-is_mark-clause-run g c = λ start taken put run.
    let marked : is_mark c.args.piece ≡ true = search rules in
    let port = port_taken (g.M.Machine.state c.args.machine.now).act in
    let now = g.M.Machine.state c.break_machine.new.machine in
    subst (Run start now (add port c.args.piece taken) put) (sym (ap is_some c.wanted.ensures ∙ wanted-some c.args.failure))
    (mark_taken start now taken put port c.args.piece c.break_machine.ensures.broken (mark_open c.args.piece marked) (c.break_machine.ensures.run start taken put (is_some c.args.failure) run))

pub returns-in-Ok-clause-run : goal.returns-in-Ok-clause-run
returns-in-Ok-clause-run g c = λ start taken put run. c.in-Ok.ensures.run start taken put (is_some c.args.failure) run

pub returns-in-Err-clause-run : goal.returns-in-Err-clause-run
returns-in-Err-clause-run g c = λ start taken put run.
    let port = port_taken (g.M.Machine.state c.args.machine.now).act in
    subst (Run start (g.M.Machine.state c.take_piece.new.machine) (add port c.args.piece taken) put) (sym (ap is_some c.wanted-in-Err.ensures ∙ wanted-some c.args.failure))
    (c.in-Err.ensures.run start taken put (is_some c.args.failure) run)
