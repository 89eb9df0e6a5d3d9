use Rattle.std.proofs.Common.{◌<◌, length}
use Rattle.ut_regex.proofs.folded.rarest.Given as goal

abbrev pub invariant-loop-place : goal.invariant-loop-place
invariant-loop-place l = l.rare < length l.bytes
