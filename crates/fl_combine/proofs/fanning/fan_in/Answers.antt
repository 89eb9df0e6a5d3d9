use Rattle.std.proofs.Common.{List, ap, ◌∙◌}
use Rattle.fl_graph.specs.declared.graphs.Cell.{Cell}
use Rattle.fl_graph.specs.declared.kinds.NodeKind.{NodeKind}
use Rattle.fl_combine.specs.Fanning.{tree_at}
use Rattle.fl_combine.proofs.FanLemmas.{tree-keeps-flow}
use Rattle.fl_combine.proofs.fanning.fan_in.Goals as goal

pub returns-in-Ok-clause-kept : goal.returns-in-Ok-clause-kept
returns-in-Ok-clause-kept c =
    tree-keeps-flow c.args.graph c.args.node c.requires c.in-Ok.found c.replace.result
    (c.in-Ok.ensures ∙ ap (λ (nodes : List (Cell NodeKind)). tree_at nodes c.args.node) c.as_slice.ensures) c.replace.ensures
