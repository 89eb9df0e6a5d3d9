use Rattle.std.proofs.Common.{◌<◌, length, ap, ◌∙◌, rules}
use Rattle.std.proofs.Math.Seq.{map-set_same}
use Rattle.fl_relay.specs.Edges.{gives_over, put_on}
use Rattle.fl_nodes.proofs.PortLemmas.{at-set, on_err, on_ok}
use Rattle.fl_nodes.proofs.ports.put_at.Goals as goal

pub returns-clause-same : goal.returns-clause-same
returns-clause-same g c =
    map-set_same gives_over c.args.givers.now.items c.args.port c.put.new.self c.index_mut.result.now (c.put.ensures.same ∙ ap gives_over c.index_mut.ensures.value)

pub returns-clause-given : goal.returns-clause-given
returns-clause-given g c =
    let known : c.args.port < length c.args.givers.now.items = search rules in
    on_ok c.put.result (λ grown. at-set put_on c.args.givers.now.items c.args.port c.index_mut.result.now c.put.new.self c.args.piece known c.index_mut.ensures.value grown) c.put.ensures.given

pub returns-clause-refused : goal.returns-clause-refused
returns-clause-refused g c =
    on_err c.put.result (λ same. map-set_same put_on c.args.givers.now.items c.args.port c.put.new.self c.index_mut.result.now (same ∙ ap put_on c.index_mut.ensures.value)) c.put.ensures.refused
