use Rattle.std.proofs.Common.{◌≡◌, ◌≤◌, ◌+◌, min, drop}
use Rattle.std.specs.List.{count_by}
use Rattle.fl_graph.specs.Kinds.{is_output}
use Rattle.fl_text.proofs.ports.outputs.Given as goal

abbrev pub invariant-loop-node : goal.invariant-loop-node
invariant-loop-node l = (l.outputs ≤ 2) × (min 2 (l.outputs + count_by (λ cell. is_output cell.kind) (drop l.node-index l.nodes)) ≡ min 2 (count_by (λ cell. is_output cell.kind) l.nodes))
