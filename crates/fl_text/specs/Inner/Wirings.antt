-- The tables by which edges are looked up: a mark for each number, and for each edge the number of the node that has made it.
use Rattle.std.specs.Prelude.{ℕ, ◌+◌, List, [], ◌∷◌, Bool, true, not, ◌&&◌, Option, Some, None, get_or, set, slice_get, option_and_then}
use Rattle.std.specs.Option.{option_map_or}
use Rattle.std.specs.List.{list_all}
use Rattle.ut_args.specs.Invocations.{words_of}
use Rattle.fl_graph.specs.Makers.{Made, Absent, is_given, is_mapped, made_by}
use Rattle.fl_graph.specs.declared.graphs.Cell.{Cell}
use Rattle.fl_graph.specs.declared.kinds.NodeKind.{NodeKind}
use Rattle.fl_graph.specs.declared.kinds.NodeKind.TheVariants as kind

-- the number has a mark, which isn't set
abbrev pub is_free : List Bool → ℕ → Bool
is_free marks number = not (get_or marks number true)

-- each number is free when its turn comes to be marked, and all are marked then
abbrev pub are_free : List Bool → List ℕ → Bool
are_free marks [] = list_all (λ mark. mark) marks
are_free marks (number ∷ numbers) = is_free marks number && are_free (set marks number true) numbers

-- the node that has made an edge, as the table says
abbrev pub maker_in : List (Cell NodeKind) → List (Option ℕ) → ℕ → Option (Cell NodeKind)
maker_in cells makers edge = option_and_then (slice_get cells) (get_or makers edge None)

-- what it has made
abbrev pub made_in : List (Cell NodeKind) → List (Option ℕ) → ℕ → Made
made_in cells makers edge = option_map_or (λ cell. made_by cell.kind) (maker_in cells makers edge) Absent

-- the table where a node has made these edges too
abbrev pub set_all : List (Option ℕ) → List ℕ → ℕ → List (Option ℕ)
set_all makers [] node = makers
set_all makers (edge ∷ edges) node = set_all (set makers edge (Some node)) edges node

-- a node of this kind joins maps of its own words, if it joins maps
abbrev pub may_join : NodeKind → (ℕ → Made) → List ℕ → Bool
may_join (kind.Agg inv) made ins = list_all (λ edge. is_mapped (words_of inv) (made edge)) ins
may_join (kind.Finish inv) made ins = list_all (λ edge. is_mapped (words_of inv) (made edge)) ins
may_join other made ins = true

-- the node takes edges alone that are given, and joins maps of its own words, if it joins maps
abbrev pub joins : (ℕ → Made) → Cell NodeKind → Bool
joins made cell = list_all (λ edge. is_given (made edge)) cell.ins && may_join cell.kind made cell.ins

-- so do all of these, from this number on
abbrev pub each_joins : List (Cell NodeKind) → List (Option ℕ) → ℕ → List (Cell NodeKind) → Bool
each_joins cells makers place [] = true
each_joins cells makers place (cell ∷ rest) = joins (made_in cells makers) cell && each_joins cells (set_all makers cell.outs place) (place + 1) rest
