use Rattle.std.proofs.Common.{◌≡◌, ◌≤◌, length}
use Rattle.ut_regex.specs.Inner.Tables.{left_at_found}
use Rattle.ut_regex.proofs.idle.left_behind_starts.Given as goal

abbrev pub invariant-loop-run : goal.invariant-loop-run
invariant-loop-run l = record {
  found : left_at_found l.next l.run.state l.run.left.now ≡ left_at_found l.next 0 l.text;
  shorter : length l.run.left.now ≤ length l.text;
}

abbrev pub decreases-loop-run : goal.decreases-loop-run
decreases-loop-run l = length l.run.left.now
