-- Tables by the numbers of edges.
use Rattle.std.specs.Prelude.{ℕ, ◌+◌, List, [], ◌∷◌, Bool, false, ◌==◌, if◌then◌else◌, get_or, max, Option, None, Some}
use Rattle.fl_graph.specs.Net.{has}

-- what a table has at an edge, and `count` where it ends before
abbrev pub looked_up : List ℕ → ℕ → ℕ → ℕ
looked_up places count edge = get_or places edge count

-- the least number above these
abbrev pub bound : List ℕ → ℕ
bound [] = 0
bound (edge ∷ edges) = max (edge + 1) (bound edges)

-- the place where the edge stands first, where the first one has this number, and `count` where it isn't there
abbrev pub place_from : ℕ → ℕ → List ℕ → ℕ → ℕ
place_from from count [] edge = count
place_from from count (other ∷ edges) edge = if other == edge then from else place_from (from + 1) count edges edge

-- the edge is among these; and it is marked, where a table may end before
abbrev pub holds : List ℕ → ℕ → Bool
holds edges edge = has edge edges

abbrev pub marked : List Bool → ℕ → Bool
marked marks edge = get_or marks edge false

-- what a table has at an edge, or else the edge itself
abbrev pub found_or : ℕ → Option ℕ → ℕ
found_or edge None = edge
found_or edge (Some root) = root

abbrev pub root_in : List (Option ℕ) → ℕ → ℕ
root_in table edge = found_or edge (get_or table edge None)

-- the roots where all of these edges have this one
abbrev pub all_at : ℕ → List ℕ → (ℕ → ℕ) → ℕ → ℕ
all_at root edges roots edge = if has edge edges then root else roots edge
