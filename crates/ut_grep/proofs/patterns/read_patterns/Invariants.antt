use Rattle.std.proofs.Common.{◌≡◌, ℕ, ◌++◌, List, length}
use Rattle.ps_lines.specs.Texts.{texts_of}
use Rattle.ut_regex.specs.Several.{trees_of}
use Rattle.ut_grep.specs.Patterns.{ArePatterns}
use Rattle.ut_grep.proofs.patterns.read_patterns.Given as goal

abbrev pub invariant-loop-left : goal.invariant-loop-left
invariant-loop-left l =
    (before : List (List ℕ)) × (texts_of l.initial.left ≡ before ++ texts_of l.left) × ArePatterns l.form before (trees_of l.all.items)

abbrev pub decreases-loop-left : goal.decreases-loop-left
decreases-loop-left l = length l.left
