-- A machine with a stream in it: what it does next, and what is due of it.
use Rattle.std.specs.Prelude.{ℕ, List, [], ◌++◌, ◌==◌, ◌&&◌, Bool, if◌then◌else◌}
use Rattle.fl_graph.specs.declared.pieces.Act.{Act}
use Rattle.fl_graph.specs.declared.pieces.Act.TheVariants as act

-- the one port, where it is open
abbrev pub only_port : Bool → ℕ → Bool
only_port is_open port = is_open && (port == 0)

-- it puts what is to be put at once, then takes, and at last ends its out
abbrev pub next_act : Bool → Bool → Bool → Act
next_act urgent taking putting =
    if putting && urgent then act.Put 0 else
    if taking then act.Take 0 else
    if putting then act.Put 0 else act.Stop

-- the bytes that wait, and what the stream owes of what is to come
abbrev pub due_through : List ℕ → Bool → (List ℕ → List ℕ) → (ℕ → List ℕ) → ℕ → List ℕ
due_through waiting taking owes texts port =
    if port == 0 then waiting ++ (if taking then owes (texts 0) else []) else []

-- what will have been selected: what the stream says of what is to come, and at its end what it has selected
abbrev pub selects_through : Bool → (List ℕ → Bool) → Bool → (ℕ → List ℕ) → Bool
selects_through taking selects selected texts = if taking then selects (texts 0) else selected
