use Rattle.std.proofs.Common.{◌≡◌, Some, map, rules}
use Rattle.fl_relay.specs.Edges.{gives_over, takes_over}
use Rattle.fl_nodes.specs.Stashes.{half_of}
use Rattle.fl_tests.proofs.NodeLemmas.{can-settle-all}
use Rattle.fl_tests.proofs.nodes.are_found_and_settled.Goals as goal

pub settle_ins-requires : goal.settle_ins-requires
settle_ins-requires g c =
    let same : takes_over c.take-end.new.self ≡ gives_over c.put.new.self = search rules in
    let halves : map Some c.in-Some.found.items ≡ map (half_of c.in_ok-takers.takers.items) c.as_slice.result.now = search rules in
    can-settle-all c.put.new.self c.take-end.new.self c.in_ok-givers.givers.items c.in_ok-takers.takers.items c.in-Some.found.items c.as_slice.result.now c.as_slice-in-Some.result.now
    (search rules) (search rules) (search rules) (search rules) halves same
