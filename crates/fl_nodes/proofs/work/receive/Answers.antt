use Rattle.std.proofs.Common.{◌≡◌, false, is_some, rules}
use Rattle.fl_nodes.proofs.MovedLemmas.{received-before, received-broken_off, received-failed, received-now}
use Rattle.fl_nodes.proofs.work.receive.Goals as goal

pub returns-then-is_some : goal.returns-then-is_some
returns-then-is_some g c = received-before _ _ (search rules)

pub returns-then-is_noted : goal.returns-then-is_noted
returns-then-is_noted g c = received-broken_off _ _ (search rules)

pub returns-in-Ok : goal.returns-in-Ok
returns-in-Ok g c =
    let none : is_some c.args.failure ≡ false = search rules in
    received-now (g.E.OwnEnd.state c.args.own.now) (g.E.OwnEnd.state c.read_piece.new.self) c.args.failure c.in-Ok.piece none c.in-Ok.ensures.same c.in-Ok.ensures.bytes c.in-Ok.ensures.ended
    c.in-Ok.ensures.whole c.in-Ok.ensures.cause.ok

pub returns-in-Err : goal.returns-in-Err
returns-in-Err g c =
    let none : is_some c.args.failure ≡ false = search rules in
    received-failed (g.E.OwnEnd.state c.args.own.now) (g.E.OwnEnd.state c.read_piece.new.self) c.args.failure c.in-Err.error none c.in-Err.ensures.same c.in-Err.ensures.cause
