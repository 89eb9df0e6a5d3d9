use Rattle.std.proofs.Common.{◌≡◌, ◌≤◌, ◌-◌, false, length, None}
use Rattle.sh_pattern.specs.Standing.{from_side, FitsFirst}
use Rattle.sh_pattern.proofs.StandingLemmas.{Stands, LastBelow}
use Rattle.sh_pattern.proofs.trims.best_count.Given as goal

-- the pattern may stand at these places, and the last number of bytes so far that fits was found
abbrev pub invariant-bytes : goal.invariant-bytes
invariant-bytes l = record {
  within : l.count ≤ length l.text;
  stands : Stands (from_side l.side l.elements) (from_side l.side l.text) l.count l.standing.items;
  last : LastBelow (FitsFirst (from_side l.side l.elements) (from_side l.side l.text)) l.count l.found;
  none : l.longest ≡ false → l.found ≡ None;
}

abbrev pub decreases-bytes : goal.decreases-bytes
decreases-bytes l = length l.text - l.count
