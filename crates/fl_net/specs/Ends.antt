-- What a network is at its end (own).
use Rattle.std.specs.Prelude.{◌≡◌, ℕ, List, [], true, map, slice_get, Option, Some}
use Rattle.std.specs.Option.{option_map}
use Rattle.ps_world.specs.Told.{then_bytes, GrewByPrefix}
use Rattle.fl_graph.specs.declared.graphs.Cell.{Cell}
use Rattle.fl_graph.specs.declared.kinds.NodeKind.{NodeKind}
use Rattle.fl_classes.specs.Flow.{flow, is_source, only}
use Rattle.fl_classes.specs.Kinds.{is_writer}
use Rattle.fl_net.specs.Plans.{AreTold}

-- the end of each node that writes has grown by its text of the flow, where the ends of the sources tell theirs
abbrev pub HasWritten : List (Cell NodeKind) → (ℕ → Option (List ℕ)) → (ℕ → Option (List ℕ)) → (ℕ → Option (List ℕ)) → Type 0
HasWritten cells left taken taken' =
    (sources : List (List ℕ)) → AreTold sources cells left → (node : ℕ) (cell : Cell NodeKind) → slice_get cells node ≡ Some cell → is_writer cell.kind ≡ true
    → taken' node ≡ then_bytes (taken node) (only (map (flow cells sources) cell.ins))

-- likewise by a front of it
abbrev pub HasWrittenFronts : List (Cell NodeKind) → (ℕ → Option (List ℕ)) → (ℕ → Option (List ℕ)) → (ℕ → Option (List ℕ)) → Type 0
HasWrittenFronts cells left taken taken' =
    (sources : List (List ℕ)) → AreTold sources cells left → (node : ℕ) (cell : Cell NodeKind) → slice_get cells node ≡ Some cell → is_writer cell.kind ≡ true
    → GrewByPrefix (taken node) (taken' node) (only (map (flow cells sources) cell.ins))

-- all that was left was read: nothing is left, where it was told
abbrev pub IsReadOff : Option (List ℕ) → Option (List ℕ) → Type 0
IsReadOff left left' = left' ≡ option_map (λ _. []) left

-- so at the end of each source
abbrev pub HasRead : List (Cell NodeKind) → (ℕ → Option (List ℕ)) → (ℕ → Option (List ℕ)) → Type 0
HasRead cells left left' = (node : ℕ) (cell : Cell NodeKind) → slice_get cells node ≡ Some cell → is_source cell.kind ≡ true → IsReadOff (left node) (left' node)
