use Rattle.std.proofs.Common.{List, ap, ◌∙◌}
use Rattle.fl_graph.specs.declared.graphs.Cell.{Cell}
use Rattle.fl_graph.specs.declared.kinds.NodeKind.{NodeKind}
use Rattle.fl_split.specs.Grouping.{groups_at}
use Rattle.fl_split.proofs.GroupLemmas.{groups-keep}
use Rattle.fl_split.proofs.grouping.group_operands.Goals as goal

pub returns-in-Ok-clause-kept : goal.returns-in-Ok-clause-kept
returns-in-Ok-clause-kept c =
    groups-keep c.args.graph c.args.node c.args.closed.now c.args.groups c.requires c.in-Ok.found c.replace.result
    (c.in-Ok.ensures ∙ ap (λ (nodes : List (Cell NodeKind)). groups_at nodes c.args.closed.now c.args.groups c.args.node) c.as_slice.ensures) c.replace.ensures
