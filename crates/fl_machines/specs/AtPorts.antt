-- A machine with a stream of several inputs at once in it: what it does next, and what is due of it.
use Rattle.std.specs.Prelude.{ℕ, suc, List, [], ◌∷◌, ◌++◌, ◌==◌, ◌&&◌, Option, None, Some, Bool, if◌then◌else◌}
use Rattle.fl_graph.specs.declared.pieces.Act.{Act}
use Rattle.fl_graph.specs.declared.pieces.Act.TheVariants as act

-- the first that is open of the ports from one on
abbrev pub first_open : ℕ → List Bool → Option ℕ
first_open at [] = None
first_open at (is_open ∷ others) = if is_open then Some at else first_open (suc at) others

-- the in whose turn it is: the one that the stream needs, and of a machine that is broken the first that is open
abbrev pub turn_of : Bool → List Bool → Option ℕ → Option ℕ
turn_of broken opens wanted = if broken then first_open 0 opens else wanted

-- it takes from the in whose turn it is, and at last ends its out
abbrev pub take_or_end : Option ℕ → Bool → Act
take_or_end (Some port) putting = act.Take port
take_or_end None putting = if putting then act.Put 0 else act.Stop

-- it puts what is to be put at once before
abbrev pub next_at_ports : Bool → Option ℕ → Bool → Act
next_at_ports urgent turn putting = if putting && urgent then act.Put 0 else take_or_end turn putting

-- the bytes that wait, and what the stream owes of what is to come
abbrev pub due_at_ports : List ℕ → ((ℕ → List ℕ) → List ℕ) → (ℕ → List ℕ) → ℕ → List ℕ
due_at_ports waiting owes texts port = if port == 0 then waiting ++ owes texts else []
