use Rattle.std.proofs.Common.{◌≡◌, take}
use Rattle.sh_pattern.specs.PathExpansion.{bytes_of}
use Rattle.sh_pattern.proofs.expansion.bytes_of.Given as goal

abbrev pub invariant-loop-mark : goal.invariant-loop-mark
invariant-loop-mark l = l.bytes.items ≡ bytes_of (take l.mark-index l.text)
