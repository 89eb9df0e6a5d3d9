use Rattle.std.proofs.Common.{◌≡◌, ◌≤◌}
use Rattle.fl_split.specs.Grouping.{group_cells, groups_from}
use Rattle.fl_split.proofs.grouping.group_nodes.Given as goal

abbrev pub invariant-loop-group : goal.invariant-loop-group
invariant-loop-group l = (l.group ≤ l.groups) × (l.nodes.items ≡ group_cells l.stage l.next (groups_from l.groups l.files 0 l.group))
