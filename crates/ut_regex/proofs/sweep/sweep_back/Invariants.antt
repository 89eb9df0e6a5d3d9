use Rattle.std.proofs.Common.{◌≡◌, ◌+◌, ◌*◌, ◌≤◌, length, reverse}
use Rattle.ut_regex.specs.Inner.Sweeps.{sunk}
use Rattle.ut_regex.specs.Inner.Held.{sinking}
use Rattle.ut_regex.proofs.sweep.sweep_back.Given as goal

abbrev pub invariant-loop-last : goal.invariant-loop-last
invariant-loop-last l = record {
  rest : sunk l.fold l.byte (reverse l.left) (sinking l.entries l.kept l.marks)
      ≡ sunk l.fold l.byte (reverse l.steps) (sinking l.initial.entries l.initial.kept l.initial.marks);
  entries_room : length l.entries.bits + 2 * length l.left ≤ l.entries.capacity;
  marks_room : length l.marks.bits + length l.left ≤ l.marks.capacity;
  entries : l.entries.capacity ≡ l.initial.entries.capacity;
  kept : l.kept.capacity ≡ l.initial.kept.capacity;
  marks : l.marks.capacity ≡ l.initial.marks.capacity;
}

abbrev pub decreases-loop-last : goal.decreases-loop-last
decreases-loop-last l = length l.left
