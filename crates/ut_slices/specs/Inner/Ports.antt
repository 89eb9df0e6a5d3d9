-- What waits at the ports of a utility that reads several inputs at once.
use Rattle.std.specs.Prelude.{ℕ, ◌+◌, List, [], ◌∷◌, Bool, false, not, drop, length, slice_get}
use Rattle.std.specs.Option.{option_map_or}
use Rattle.ut_slices.specs.declared.waits.Port.{Port}

abbrev pub waits : Port → List ℕ
waits port = drop port.passed port.held.items

-- the bytes that wait at a port, and whether it hasn't ended
abbrev pub waiting_at : List Port → ℕ → List ℕ
waiting_at ports number = option_map_or waits (slice_get ports number) []

abbrev pub is_open_at : List Port → ℕ → Bool
is_open_at ports number = option_map_or (λ (port : Port). not port.has_ended) (slice_get ports number) false

-- how many bytes wait
abbrev pub total_waiting : List Port → ℕ
total_waiting [] = 0
total_waiting (port ∷ ports) = length (waits port) + total_waiting ports
