use Rattle.std.proofs.Common.{◌≡◌, ◌+◌, ◌*◌, ◌<◌, ℕ, length, slice_index_or}
use Rattle.ut_regex.specs.declared.table.TheConstants.{FOUND}
use Rattle.ut_regex.specs.Inner.Tables.{text_entry}
use Rattle.ut_regex.proofs.texts.text_entries.Given as goal

abbrev pub invariant-loop-place : goal.invariant-loop-place
invariant-loop-place l = record {
  count : length l.entries.items ≡ l.place;
  so_far : (state byte : ℕ) → byte < 256 → 256 * state + byte < l.place
      → slice_index_or l.entries.items (256 * state + byte) FOUND ≡ text_entry l.next l.ends state byte;
}
