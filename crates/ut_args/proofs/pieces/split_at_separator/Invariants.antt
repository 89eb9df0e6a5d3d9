use Rattle.std.proofs.Common.{◌≡◌, ◌+◌, ◌++◌, length, take, drop}
use Rattle.ut_args.specs.Pieces.{before_separator, from_separator}
use Rattle.ut_args.proofs.pieces.split_at_separator.Given as goal

abbrev pub invariant-loop-left : goal.invariant-loop-left
invariant-loop-left l = record {
  within : l.count + length l.left ≡ length l.text;
  before : before_separator l.separators l.text ≡ take l.count l.text ++ before_separator l.separators l.left;
  from : from_separator l.separators l.text ≡ from_separator l.separators l.left;
  rest : l.left ≡ drop l.count l.text;
}

abbrev pub decreases-loop-left : goal.decreases-loop-left
decreases-loop-left l = length l.left
