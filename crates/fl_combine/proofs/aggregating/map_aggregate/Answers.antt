use Rattle.std.proofs.Common.{◌≡◌, List, ap, ◌∙◌}
use Rattle.fl_graph.specs.declared.graphs.Cell.{Cell}
use Rattle.fl_graph.specs.declared.kinds.NodeKind.{NodeKind}
use Rattle.fl_combine.specs.Aggregating.{aggregate_at}
use Rattle.fl_combine.proofs.AggregateLemmas.{found-cat, found-keeps}
use Rattle.fl_combine.proofs.aggregating.map_aggregate.Goals as goal

pub exchange-requires-clause-cat : goal.exchange-requires-clause-cat
exchange-requires-clause-cat c =
    found-cat c.args.graph c.args.node c.requires c.in-Ok.found (c.in-Ok.ensures ∙ ap (λ (nodes : List (Cell NodeKind)). aggregate_at nodes c.args.node) c.as_slice.ensures)

pub returns-in-Ok-clause-kept : goal.returns-in-Ok-clause-kept
returns-in-Ok-clause-kept c =
    found-keeps c.args.graph c.args.node c.requires c.in-Ok.found c.exchange.result
    (c.in-Ok.ensures ∙ ap (λ (nodes : List (Cell NodeKind)). aggregate_at nodes c.args.node) c.as_slice.ensures) c.exchange.ensures
