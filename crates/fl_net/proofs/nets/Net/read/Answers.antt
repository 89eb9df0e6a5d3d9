use Rattle.std.proofs.Common.{refl, length, subst, sym, ◌<◌, ℕ}
use Rattle.std.proofs.lemmas.Option.{slice_get_read}
use Rattle.fl_net.proofs.TurnLemmas.{same_halts, read_leads_at, edge_at, wire_at}
use Rattle.fl_net.proofs.nets.Net.read.Goals as goal

pub returns-in-Err-clause-halts : goal.returns-in-Err-clause-halts
returns-in-Err-clause-halts g c =
    same_halts _ c.args.self.now.ports.items c.args.self.now.machines.items c.args.self.now.wires.items _ (g.E.NodeEnds.left c.read_piece.new.ends) _ _ c.args.node c.index.result.now
    (slice_get_read c.args.self.now.ports.items (length c.args.self.now.ports.items) c.args.node c.index.result.now refl c.requires.node c.index.ensures)
    c.read_piece.ensures.taken

pub returns-in-Ok-push-clause-leads : goal.returns-in-Ok-push-clause-leads
returns-in-Ok-push-clause-leads g c =
    let at_found = slice_get_read c.args.self.now.ports.items (length c.args.self.now.ports.items) c.args.node c.index.result.now refl c.requires.node c.index.ensures in
    let port = c.requires.port c.index.result.now at_found in
    let edge_is = edge_at c.index.result.now.ins.items c.index-edge.result.now port.0 c.index-edge.ensures in
    let within = subst (λ (edge : ℕ). edge < length c.args.self.now.wires.items) (sym edge_is) port.1 in
    read_leads_at _ c.args.self.now.ports.items c.args.self.now.machines.items c.args.self.now.wires.items
    (g.E.NodeEnds.left c.args.ends.now) (g.E.NodeEnds.left c.read_piece.new.ends) (g.E.NodeEnds.taken c.args.ends.now) (g.E.NodeEnds.taken c.read_piece.new.ends) c.args.node c.index-edge.result.now c.index.result.now
    at_found
    within
    c.index_mut-wire.result.now c.push.new.self c.in-Ok.piece edge_is (wire_at c.args.self.now.wires.items c.index-edge.result.now c.index_mut-wire.result.now within c.index_mut-wire.ensures.value) c.in-Ok-push.ensures.ok
    c.in-Ok.ensures.plain c.in-Ok.ensures.whole c.in-Ok.ensures.sized c.in-Ok.ensures.bytes c.in-Ok.ensures.ended c.read_piece.ensures.left c.read_piece.ensures.taken

pub returns-in-Err-push-clause-halts : goal.returns-in-Err-push-clause-halts
returns-in-Err-push-clause-halts g c =
    same_halts _ c.args.self.now.ports.items c.args.self.now.machines.items c.args.self.now.wires.items _ (g.E.NodeEnds.left c.read_piece.new.ends) _ _ c.args.node c.index.result.now
    (slice_get_read c.args.self.now.ports.items (length c.args.self.now.ports.items) c.args.node c.index.result.now refl c.requires.node c.index.ensures)
    c.read_piece.ensures.taken
