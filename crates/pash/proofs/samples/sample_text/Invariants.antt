use Rattle.std.proofs.Common.{◌≡◌, ◌++◌}
use Rattle.pash.specs.Samples.{sample_text}
use Rattle.pash.proofs.samples.sample_text.Given as goal

-- what is left to write is the text of the lines that are left
abbrev pub invariant-loop-left : goal.invariant-loop-left
invariant-loop-left l = l.text.items ++ sample_text l.number l.left ≡ sample_text l.seed l.lines

abbrev pub decreases-loop-left : goal.decreases-loop-left
decreases-loop-left l = l.left
