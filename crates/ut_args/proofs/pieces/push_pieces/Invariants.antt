use Rattle.std.proofs.Common.{◌≡◌, ◌++◌, length}
use Rattle.ut_args.specs.Pieces.{pieces}
use Rattle.ut_args.proofs.pieces.push_pieces.Given as goal

abbrev pub invariant-loop-piece : goal.invariant-loop-piece
invariant-loop-piece l = l.initial.texts ++ pieces l.separators l.initial.left ≡ l.texts ++ pieces l.separators l.left

abbrev pub decreases-loop-piece : goal.decreases-loop-piece
decreases-loop-piece l = length l.left
