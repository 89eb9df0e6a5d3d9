use Rattle.std.proofs.Common.{◌≡◌, ◌≤◌, length}
use Rattle.sh_lex.specs.Texts.{behind_quote}
use Rattle.sh_lex.proofs.texts.behind_quote.Given as goal

abbrev pub invariant-loop-byte : goal.invariant-loop-byte
invariant-loop-byte l = record {
  same : behind_quote l.fn.text ≡ behind_quote l.rest;
  within : length l.rest ≤ length l.fn.text;
}

abbrev pub decreases-loop-byte : goal.decreases-loop-byte
decreases-loop-byte l = length l.rest
