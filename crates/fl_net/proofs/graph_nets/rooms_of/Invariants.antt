use Rattle.std.proofs.Common.{◌≡◌, ℕ, ◌<◌, if◌then◌else◌, length, drop}
use Rattle.std.specs.List.{list_any}
use Rattle.fl_net.specs.Plans.{is_sole, room_of}
use Rattle.fl_net.specs.Steps.{room_on}
use Rattle.fl_net.proofs.graph_nets.rooms_of.Given as goal

abbrev pub invariant-loop-node : goal.invariant-loop-node
invariant-loop-node l =
    (length l.rooms.items ≡ l.edges)
    × ((edge : ℕ) → edge < l.edges
    → (if list_any (λ cell. is_sole edge cell.ins) (drop l.node-index l.nodes) then l.cap else room_on l.rooms.items edge) ≡ room_of l.nodes l.cap edge)
