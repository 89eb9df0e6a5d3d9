use Rattle.std.proofs.Common.{◌≡◌, false}
use Rattle.pash_bench.proofs.streams.feed.Given as goal

abbrev pub invariant-loop : goal.invariant-loop
invariant-loop g l = g.S.Stream.spent l.stream ≡ false
