use Rattle.std.proofs.Common.{◌≡◌, map, take}
use Rattle.ut_sort.specs.Keys.{with_global}
use Rattle.ut_sort.proofs.orders.each_with_global.Given as goal

abbrev pub invariant-loop-key : goal.invariant-loop-key
invariant-loop-key l = l.found.items ≡ map (with_global l.global) (take l.key-index l.keys)
