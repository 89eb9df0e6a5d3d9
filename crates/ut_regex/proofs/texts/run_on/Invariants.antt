use Rattle.std.proofs.Common.{◌≡◌, ◌≤◌, length}
use Rattle.ut_regex.specs.Inner.Tables.{left_at_found}
use Rattle.ut_regex.proofs.texts.run_on.Given as goal

abbrev pub invariant-loop-left : goal.invariant-loop-left
invariant-loop-left l =
    (left_at_found l.next l.begun l.text ≡ left_at_found l.next l.state l.left) × (length l.left ≤ length l.text)

abbrev pub decreases-loop-left : goal.decreases-loop-left
decreases-loop-left l = length l.left
