use Rattle.std.proofs.Common.{◌≡◌, take}
use Rattle.ut_groups.specs.Counting.{words_behind}
use Rattle.ut_groups.specs.Inner.Columns.{last_behind}
use Rattle.ut_groups.proofs.counting.words_of_block.Given as goal

abbrev pub invariant-loop-byte : goal.invariant-loop-byte
invariant-loop-byte l = (l.count ≡ words_behind l.before (take l.byte-index l.block)) × (l.last ≡ last_behind l.before (take l.byte-index l.block))
