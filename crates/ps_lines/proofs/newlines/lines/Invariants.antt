use Rattle.std.proofs.Common.{◌≡◌, ◌++◌, length, map}
use Rattle.ps_lines.specs.Lines.{lines}
use Rattle.ps_lines.proofs.newlines.lines.Given as goal

abbrev pub invariant-loop-line : goal.invariant-loop-line
invariant-loop-line l = map (λ line. line.items) l.found.items ++ lines l.left ≡ lines l.text

abbrev pub decreases-loop-line : goal.decreases-loop-line
decreases-loop-line l = length l.left
