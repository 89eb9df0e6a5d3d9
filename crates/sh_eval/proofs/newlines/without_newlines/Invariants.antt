use Rattle.std.proofs.Common.{◌≡◌, length}
use Rattle.sh_eval.specs.Newlines.{without_newlines as without_newlines_def}
use Rattle.sh_eval.proofs.newlines.without_newlines.Given as goal

abbrev pub invariant-loop-last : goal.invariant-loop-last
invariant-loop-last l = without_newlines_def l.left ≡ without_newlines_def l.text

abbrev pub decreases-loop-last : goal.decreases-loop-last
decreases-loop-last l = length l.left
