use Rattle.std.proofs.Common.{◌≡◌, ◌-◌, ◌++◌, length, map, take}
use Rattle.ps_fakes.specs.Trees.{climb, folder, placed_of}
use Rattle.ps_fakes.proofs.stored.push_above.Given as goal

abbrev pub invariant-steps : goal.invariant-steps
invariant-steps l =
    (l.dir ≡ take (length l.path - l.counter) l.path)
    × (map placed_of l.stored.items ≡ map placed_of l.initial.stored.items ++ map folder (climb l.path l.counter))
