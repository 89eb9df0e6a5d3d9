use Rattle.std.proofs.Common.{◌≡◌, ℕ, List, [], Bool, false, length, slice_get, get_or, Some, drop}
use Rattle.std.specs.List.{list_any}
use Rattle.fl_net.proofs.finish.any_selected.Given as goal

abbrev pub invariant-loop-node : goal.invariant-loop-node
invariant-loop-node g l =
    (told : List Bool) → ((node : ℕ) (machine : _) → slice_get l.fn.machines node ≡ Some machine → get_or told node false ≡ (g.M.Machine.state machine).selects (λ _. []))
    → length told ≡ length l.fn.machines
    → list_any (λ node. get_or told node false) l.fn.nodes ≡ list_any (λ node. get_or told node false) (drop l.node-index l.nodes)
