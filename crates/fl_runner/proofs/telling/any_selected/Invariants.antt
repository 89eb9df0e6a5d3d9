use Rattle.std.proofs.Common.{◌≡◌, false, get_or, map, drop}
use Rattle.std.specs.List.{list_any}
use Rattle.fl_runner.proofs.telling.any_selected.Given as goal

abbrev pub invariant-loop-node : goal.invariant-loop-node
invariant-loop-node g l =
    list_any (λ node. get_or (map (λ done. done.selected) l.fn.nodes) node false) l.fn.named
    ≡ list_any (λ node. get_or (map (λ done. done.selected) l.fn.nodes) node false) (drop l.node-index l.named)
