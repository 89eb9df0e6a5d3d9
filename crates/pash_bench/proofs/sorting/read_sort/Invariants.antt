use Rattle.std.proofs.Common.{◌<◌, length}
use Rattle.pash_bench.proofs.sorting.read_sort.Given as goal

abbrev pub invariant-loop-option : goal.invariant-loop-option
invariant-loop-option l = 0 < length l.words.items
