use Rattle.std.proofs.Common.{◌≡◌, map}
use Rattle.ps_fakes.specs.Trees.{entries_of, placed, placed_of}
use Rattle.ps_fakes.proofs.stored.place_all.Given as goal

abbrev pub invariant-loop-text : goal.invariant-loop-text
invariant-loop-text l = map placed_of l.stored.items ≡ map placed (entries_of l.yielded)
