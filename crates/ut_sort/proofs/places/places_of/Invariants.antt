use Rattle.std.proofs.Common.{◌≡◌, ◌-◌, ◌*◌, ◌≤◌, ◌++◌, drop, length}
use Rattle.ps_lines.specs.Lines.{lines}
use Rattle.ut_sort.specs.Places.{ArePlaces, RiseTo, lines_in}
use Rattle.ut_sort.proofs.places.places_of.Given as goal

abbrev pub invariant-loop-line : goal.invariant-loop-line
invariant-loop-line l =
    (length l.left ≤ length l.text) × (l.left ≡ drop (length l.text - length l.left) l.text) × (lines_in l.text l.places.items ++ lines l.left ≡ lines l.text)
    × ArePlaces l.order l.text l.places.items × RiseTo (65536 * (length l.text - length l.left)) l.places.items

abbrev pub decreases-loop-line : goal.decreases-loop-line
decreases-loop-line l = length l.left
