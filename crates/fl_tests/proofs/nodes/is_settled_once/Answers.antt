use Rattle.std.proofs.Common.{◌≡◌, rules}
use Rattle.fl_relay.specs.Edges.{gives_over, takes_over}
use Rattle.fl_tests.proofs.NodeLemmas.{can-settle}
use Rattle.fl_tests.proofs.nodes.is_settled_once.Goals as goal

pub settle_at-settled-requires : goal.settle_at-settled-requires
settle_at-settled-requires g c =
    let same : takes_over c.take-end.new.self ≡ gives_over c.put.new.self = search rules in
    can-settle c.put.new.self c.take-end.new.self c.in_ok-givers.givers.items (search rules) same
