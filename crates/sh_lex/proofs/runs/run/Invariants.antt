-- The bytes so far, and those of the rest.
use Rattle.std.proofs.Common.{◌≡◌, ◌++◌, length}
use Rattle.sh_lex.specs.Runs.{has}
use Rattle.sh_lex.specs.Texts.{run}
use Rattle.sh_lex.proofs.runs.run.Given as goal

abbrev pub invariant-loop-byte : goal.invariant-loop-byte
invariant-loop-byte l = l.bytes.items ++ run (has l.class) l.rest ≡ run (has l.class) l.fn.text

abbrev pub decreases-loop-byte : goal.decreases-loop-byte
decreases-loop-byte l = length l.rest
