use Rattle.std.proofs.Common.{◌≡◌, ◌≤◌, length}
use Rattle.sh_lex.specs.Texts.{behind_comment}
use Rattle.sh_lex.proofs.texts.behind_comment.Given as goal

abbrev pub invariant-loop-byte : goal.invariant-loop-byte
invariant-loop-byte l = record {
  same : behind_comment l.fn.text ≡ behind_comment l.rest;
  within : length l.rest ≤ length l.fn.text;
}

abbrev pub decreases-loop-byte : goal.decreases-loop-byte
decreases-loop-byte l = length l.rest
