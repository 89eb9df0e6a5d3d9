use Rattle.std.proofs.Common.{◌≡◌, map, take}
use Rattle.std.specs.List.{flat_map}
use Rattle.ps_fakes.specs.Trees.{Placed, above, folder, placed_of}
use Rattle.ps_fakes.proofs.stored.folders_of.Given as goal

abbrev pub invariant-loop-entry : goal.invariant-loop-entry
invariant-loop-entry l = map placed_of l.stored.items ≡ map folder (flat_map (λ (placed : Placed). above placed.0) (map placed_of (take l.entry-index l.entries)))
