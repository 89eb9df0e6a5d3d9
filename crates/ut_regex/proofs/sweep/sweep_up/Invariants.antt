use Rattle.std.proofs.Common.{◌≡◌, ◌+◌, ◌-◌, ◌*◌, ◌≤◌, length, drop}
use Rattle.ut_regex.specs.Inner.Sweeps.{risen}
use Rattle.ut_regex.specs.Inner.Held.{rising}
use Rattle.ut_regex.proofs.sweep.sweep_up.Given as goal

abbrev pub invariant-loop-step : goal.invariant-loop-step
invariant-loop-step l = record {
  rest : risen l.begins l.ends (drop l.step-index l.steps) (rising l.values l.marks l.kept)
      ≡ risen l.begins l.ends l.steps (rising l.initial.values l.initial.marks l.initial.kept);
  values_room : length l.values.bits + 2 * (length l.steps - l.step-index) ≤ l.values.capacity;
  kept_room : length l.kept.bits + 2 * (length l.steps - l.step-index) ≤ l.kept.capacity;
  values : l.values.capacity ≡ l.initial.values.capacity;
  marks : l.marks.capacity ≡ l.initial.marks.capacity;
  kept : l.kept.capacity ≡ l.initial.kept.capacity;
}
