use Rattle.std.proofs.Common.{◌≡◌, take}
use Rattle.ut_groups.specs.Counting.{newlines as newlines_def}
use Rattle.ut_groups.proofs.counting.newlines_of_block.Given as goal

abbrev pub invariant-loop-byte : goal.invariant-loop-byte
invariant-loop-byte l = l.count ≡ newlines_def (take l.byte-index l.block)
