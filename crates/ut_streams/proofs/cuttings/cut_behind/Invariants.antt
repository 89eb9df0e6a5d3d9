use Rattle.std.proofs.Common.{◌≡◌, ◌++◌, length}
use Rattle.std.specs.List.{concat}
use Rattle.ps_lines.specs.Texts.{texts_of}
use Rattle.ut_streams.proofs.cuttings.cut_behind.Given as goal

abbrev pub invariant-loop-left : goal.invariant-loop-left
invariant-loop-left l = (concat (texts_of l.pieces.items) ++ l.piece.items) ++ l.left ≡ l.initial.left

abbrev pub decreases-loop-left : goal.decreases-loop-left
decreases-loop-left l = length l.left
