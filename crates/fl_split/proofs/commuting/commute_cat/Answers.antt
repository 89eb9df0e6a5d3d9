use Rattle.std.proofs.Common.{List, ap, ◌∙◌}
use Rattle.fl_graph.specs.declared.graphs.Cell.{Cell}
use Rattle.fl_graph.specs.declared.kinds.NodeKind.{NodeKind}
use Rattle.fl_split.specs.Commuting.{spread_at}
use Rattle.fl_split.proofs.CommuteLemmas.{found-cat}
use Rattle.fl_split.proofs.commuting.commute_cat.Goals as goal

pub exchange-requires-clause-cat : goal.exchange-requires-clause-cat
exchange-requires-clause-cat c =
    found-cat c.args.graph c.args.node c.requires c.in-Ok.found (c.in-Ok.ensures ∙ ap (λ (nodes : List (Cell NodeKind)). spread_at nodes c.args.node) c.as_slice.ensures)
