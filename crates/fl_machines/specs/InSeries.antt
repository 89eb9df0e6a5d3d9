-- A machine that takes its ins in order, with a series in it: what it does next, and what is due of it.
use Rattle.std.specs.Prelude.{ℕ, ◌-◌, List, [], ◌++◌, ◌==◌, ◌&&◌, nat_le, nat_lt, Bool, map, if◌then◌else◌}
use Rattle.std.specs.List.{range_with_len}
use Rattle.fl_graph.specs.declared.pieces.Act.{Act}
use Rattle.fl_graph.specs.declared.pieces.Act.TheVariants as act

-- the ports from one on
abbrev pub ports_from : ℕ → ℕ → ℕ → Bool
ports_from at ins port = nat_le at port && nat_lt port ins

-- it puts what is to be put at once, then takes from the in whose turn it is, and at last ends its out
abbrev pub next_in_order : Bool → ℕ → ℕ → Bool → Act
next_in_order urgent at ins putting =
    if putting && urgent then act.Put 0 else
    if nat_lt at ins then act.Take at else
    if putting then act.Put 0 else act.Stop

-- the texts at the ports from one on
abbrev pub texts_from : (ℕ → List ℕ) → ℕ → ℕ → List (List ℕ)
texts_from texts at ins = map texts (range_with_len at (ins - at))

-- the bytes that wait, and what the series owes of what is to come
abbrev pub due_in_series : List ℕ → ℕ → ℕ → (List (List ℕ) → List ℕ) → (ℕ → List ℕ) → ℕ → List ℕ
due_in_series waiting at ins owes texts port =
    if port == 0 then waiting ++ (if nat_lt at ins then owes (texts_from texts at ins) else []) else []

-- what will have been selected: what the series says of what is to come, and at its end what it has selected
abbrev pub selects_in_series : ℕ → ℕ → (List (List ℕ) → Bool) → Bool → (ℕ → List ℕ) → Bool
selects_in_series at ins selects selected texts = if nat_lt at ins then selects (texts_from texts at ins) else selected
