use Rattle.std.proofs.Common.{◌≡◌, ◌≤◌, length}
use Rattle.sh_lex.specs.Texts.{unspliced}
use Rattle.sh_lex.proofs.texts.front.Given as goal

abbrev pub invariant-loop-first : goal.invariant-loop-first
invariant-loop-first l = record {
  same : unspliced l.fn.text ≡ unspliced l.rest;
  within : length l.rest ≤ length l.fn.text;
}

abbrev pub decreases-loop-first : goal.decreases-loop-first
decreases-loop-first l = length l.rest
