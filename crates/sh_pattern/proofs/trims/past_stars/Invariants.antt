use Rattle.std.proofs.Common.{ℕ, List, ◌↔◌, ◌-◌, drop, length}
use Rattle.sh_pattern.specs.Fits.{Fits, EndsIn}
use Rattle.sh_pattern.specs.Standing.{from_side}
use Rattle.sh_pattern.proofs.trims.past_stars.Given as goal

-- only stars were passed
abbrev pub invariant-stars : goal.invariant-stars
invariant-stars l = (text : List ℕ) → EndsIn (Fits (drop l.place (from_side l.side l.elements))) text ↔ EndsIn (Fits (drop l.at (from_side l.side l.elements))) text

abbrev pub decreases-stars : goal.decreases-stars
decreases-stars l = length l.elements - l.at
