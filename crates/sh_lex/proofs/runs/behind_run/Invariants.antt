use Rattle.std.proofs.Common.{◌≡◌, ◌≤◌, length}
use Rattle.sh_lex.specs.Runs.{has}
use Rattle.sh_lex.specs.Texts.{behind_run}
use Rattle.sh_lex.proofs.runs.behind_run.Given as goal

abbrev pub invariant-loop-byte : goal.invariant-loop-byte
invariant-loop-byte l = record {
  same : behind_run (has l.class) l.fn.text ≡ behind_run (has l.class) l.rest;
  within : length l.rest ≤ length l.fn.text;
}

abbrev pub decreases-loop-byte : goal.decreases-loop-byte
decreases-loop-byte l = length l.rest
