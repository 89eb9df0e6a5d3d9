use Rattle.std.proofs.Common.{◌<◌, length, ap, ◌∙◌, rules}
use Rattle.std.proofs.Math.Seq.{map-set_same}
use Rattle.fl_relay.specs.Edges.{takes_over, taken_from}
use Rattle.fl_nodes.proofs.PortLemmas.{at-set}
use Rattle.fl_nodes.proofs.ports.take_at.Goals as goal

pub returns-clause-same : goal.returns-clause-same
returns-clause-same g c =
    map-set_same takes_over c.args.takers.now.items c.args.port c.take.new.self c.index_mut.result.now (c.take.ensures.same ∙ ap takes_over c.index_mut.ensures.value)

pub returns-clause-taken : goal.returns-clause-taken
returns-clause-taken g c =
    let known : c.args.port < length c.args.takers.now.items = search rules in
    at-set taken_from c.args.takers.now.items c.args.port c.index_mut.result.now c.take.new.self c.take.result known c.index_mut.ensures.value c.take.ensures.taken
