use Rattle.std.proofs.Common.{◌≡◌, true, false, is_some, Some, refl, sym, ◌∙◌, rules}
use Rattle.std.proofs.lemmas.Bool.{true≢false}
use Rattle.fl_nodes.specs.Points.{point}
use Rattle.fl_nodes.proofs.MovedLemmas.{fails-calm, fails-kept, fails-now}
use Rattle.fl_nodes.proofs.WorkLemmas.{sent_outside}
use Rattle.ps_world.proofs.ToldLemmas.{grew_by_whole}
use Rattle.fl_nodes.proofs.work.send_outside.Goals as goal

pub returns-then-is_some : goal.returns-then-is_some
returns-then-is_some g c =
    let some : is_some c.args.worker.now.failure ≡ true = search rules in
    let own = g.E.OwnEnd.state c.args.worker.now.own in
    sent_outside (point g.M.Machine.state g.E.OwnEnd.state c.args.worker.now) (g.M.Machine.state c.args.worker.now.machine) own c.args.worker.now.failure c.args.port c.args.piece c.requires.edge
    (λ start taken put run. run) (record { role = refl; reads = refl; writes = refl }) (fails-kept c.args.worker.now.failure own.faults some)
    (λ none. absurd (true≢false (sym some ∙ none))) (λ none. absurd (true≢false (sym some ∙ none))) (λ is. refl)

pub returns-in-Ok : goal.returns-in-Ok
returns-in-Ok g c =
    let none : is_some c.args.worker.now.failure ≡ false = search rules in
    let was = g.E.OwnEnd.state c.args.worker.now.own in
    let now = g.E.OwnEnd.state c.write_piece.new.self in
    sent_outside (point g.M.Machine.state g.E.OwnEnd.state c.args.worker.now) (g.M.Machine.state c.args.worker.now.machine) now c.args.worker.now.failure c.args.port c.args.piece c.requires.edge
    (λ start taken put run. run) c.in-Ok.ensures.same (fails-calm c.args.worker.now.failure was.faults now.faults none c.in-Ok.ensures.cause.ok)
    (λ fine. c.in-Ok.ensures.ok) (λ fine. grew_by_whole was.taken now.taken _ c.in-Ok.ensures.ok) (λ some. absurd (true≢false (sym some ∙ none)))

pub returns : goal.returns
returns g c =
    let none : is_some c.args.worker.now.failure ≡ false = search rules in
    let was = g.E.OwnEnd.state c.args.worker.now.own in
    let now = g.E.OwnEnd.state c.write_piece.new.self in
    sent_outside (point g.M.Machine.state g.E.OwnEnd.state c.args.worker.now) (g.M.Machine.state c.shut_off.new.machine) now (Some c.in-Err.error) c.args.port c.args.piece c.requires.edge
    (λ start taken put run. c.shut_off.ensures.run start taken put (is_some c.args.worker.now.failure) run) c.in-Err.ensures.same
    (fails-now c.args.worker.now.failure c.in-Err.error was.faults now.faults none c.in-Err.ensures.cause)
    (λ never. absurd (true≢false never)) (λ fine. c.in-Err.ensures.err) (λ some. absurd (true≢false (sym some ∙ none)))
