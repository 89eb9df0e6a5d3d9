use Rattle.std.proofs.Common.{◌≡◌, ◌<◌, ℕ, Bool, ◌||◌, List, length}
use Rattle.ps_lines.specs.ByteSet.{has_byte}
use Rattle.ut_regex.specs.declared.brackets.Item.{Item}
use Rattle.ut_regex.specs.Brackets.{lists, IsItems, IsNoItems, IsListing, IsNoListing}
use Rattle.ut_regex.proofs.brackets.listing.Given as goal

abbrev pub invariant-items : goal.invariant-items
invariant-items l = record {
  read : (items : List Item) (rest : List ℕ) → IsItems l.left items rest → (has : ℕ → Bool)
      → ((byte : ℕ) → byte < 256 → has byte ≡ (lists items byte || has_byte l.set byte)) → IsListing l.text has rest;
  none : IsNoItems l.left → IsNoListing l.text;
  shorter : length l.left < length l.text;
}

abbrev pub decreases-items : goal.decreases-items
decreases-items l = length l.left
