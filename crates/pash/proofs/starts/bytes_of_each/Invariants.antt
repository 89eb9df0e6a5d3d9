use Rattle.std.proofs.Common.{◌≡◌, take}
use Rattle.pash.specs.Words.{texts}
use Rattle.pash.proofs.starts.bytes_of_each.Given as goal

abbrev pub invariant-loop-word : goal.invariant-loop-word
invariant-loop-word l = l.copies ≡ texts (take l.word-index l.words)
