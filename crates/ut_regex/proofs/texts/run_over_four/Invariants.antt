use Rattle.std.proofs.Common.{◌≡◌, ◌+◌, ◌*◌, ◌-◌, ◌<◌, ◌≤◌, length, drop}
use Rattle.ut_regex.specs.Inner.Tables.{left_at_found}
use Rattle.ut_regex.proofs.texts.run_over_four.Given as goal

abbrev pub invariant-loop-at : goal.invariant-loop-at
invariant-loop-at l = record {
  first : left_at_found l.next l.first_state (drop l.at l.first) ≡ left_at_found l.next 0 l.first;
  second : left_at_found l.next l.second_state (drop l.at l.second) ≡ left_at_found l.next 0 l.second;
  third : left_at_found l.next l.third_state (drop l.at l.third) ≡ left_at_found l.next 0 l.third;
  fourth : left_at_found l.next l.fourth_state (drop l.at l.fourth) ≡ left_at_found l.next 0 l.fourth;
  first_known : 256 * l.first_state + 255 < length l.next;
  second_known : 256 * l.second_state + 255 < length l.next;
  third_known : 256 * l.third_state + 255 < length l.next;
  fourth_known : 256 * l.fourth_state + 255 < length l.next;
  within : l.at ≤ l.count;
}

abbrev pub decreases-loop-at : goal.decreases-loop-at
decreases-loop-at l = l.count - l.at
