use Rattle.std.proofs.Common.{◌≡◌, false}
use Rattle.ut_sort.specs.declared.sorter.Sorter.{Sorter}
use Rattle.pash_bench.proofs.sorting.gather.Given as goal

abbrev pub invariant-loop : goal.invariant-loop
invariant-loop g l = l.sorter.spent ≡ false
