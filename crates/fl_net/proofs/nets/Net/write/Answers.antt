use Rattle.std.proofs.Common.{refl, length, subst, sym, ◌<◌, ℕ}
use Rattle.std.proofs.lemmas.Option.{slice_get_read}
use Rattle.fl_net.proofs.TurnLemmas.{on_ok_map, on_err_map, write_leads_at, write_halts_at, edge_at, wire_at}
use Rattle.fl_net.proofs.nets.Net.write.Goals as goal

pub returns-clause-leads : goal.returns-clause-leads
returns-clause-leads g c = on_ok_map c.write_piece.result c.write_piece.ensures.ok (λ grew.
    let at_found = slice_get_read c.args.self.now.ports.items (length c.args.self.now.ports.items) c.args.node c.index.result.now refl c.requires.node c.index.ensures in
    let port = c.requires.port c.index.result.now at_found in
    let edge_is = edge_at c.index.result.now.outs.items c.index-edge.result.now port.0 c.index-edge.ensures in
    let within = subst (λ (edge : ℕ). edge < length c.args.self.now.wires.items) (sym edge_is) port.1 in
    write_leads_at _ c.args.self.now.ports.items c.args.self.now.machines.items c.args.self.now.wires.items _ _ _ _ c.args.node c.index-edge.result.now c.index.result.now
    at_found within
    c.index_mut.result.now c.in-Some.piece c.pop.new.self edge_is (wire_at c.args.self.now.wires.items c.index-edge.result.now c.index_mut.result.now within c.index_mut.ensures.value) c.in-Some.ensures.some
    c.write_piece.ensures.taken grew c.write_piece.ensures.left)

pub returns-clause-halts : goal.returns-clause-halts
returns-clause-halts g c = on_err_map c.write_piece.result c.write_piece.ensures.err (λ grew.
    let at_found = slice_get_read c.args.self.now.ports.items (length c.args.self.now.ports.items) c.args.node c.index.result.now refl c.requires.node c.index.ensures in
    let port = c.requires.port c.index.result.now at_found in
    let edge_is = edge_at c.index.result.now.outs.items c.index-edge.result.now port.0 c.index-edge.ensures in
    let within = subst (λ (edge : ℕ). edge < length c.args.self.now.wires.items) (sym edge_is) port.1 in
    write_halts_at _ c.args.self.now.ports.items c.args.self.now.machines.items c.args.self.now.wires.items _ (g.E.NodeEnds.left c.write_piece.new.ends) _ _ c.args.node c.index-edge.result.now c.index.result.now
    at_found within
    c.index_mut.result.now c.in-Some.piece c.pop.new.self edge_is (wire_at c.args.self.now.wires.items c.index-edge.result.now c.index_mut.result.now within c.index_mut.ensures.value) c.in-Some.ensures.some
    c.write_piece.ensures.taken grew)
