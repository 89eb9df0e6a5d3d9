use Rattle.std.proofs.Common.{◌≡◌, length}
use Rattle.std.specs.List.{list_any}
use Rattle.sh_expand.specs.Marks.{has_pattern}
use Rattle.sh_expand.specs.Splitting.{split, split_behind}
use Rattle.sh_expand.proofs.splitting.is_pattern_left.Given as goal

-- what the marks that are left tell, all tell
abbrev pub invariant-loop-mark : goal.invariant-loop-mark
invariant-loop-mark l = list_any has_pattern (split_behind l.ifs l.before l.left) ≡ list_any has_pattern (split l.ifs l.marks)

abbrev pub decreases-loop-mark : goal.decreases-loop-mark
decreases-loop-mark l = length l.left
