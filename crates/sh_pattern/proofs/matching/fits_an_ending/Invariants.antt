use Rattle.std.proofs.Common.{◌↔◌, length, ◌+◌}
use Rattle.sh_pattern.specs.Fits.{Fits, EndsIn}
use Rattle.sh_pattern.proofs.matching.fits_an_ending.Given as goal

abbrev pub invariant-loop-others : goal.invariant-loop-others
invariant-loop-others l = EndsIn (Fits l.fn.pattern) l.fn.text ↔ EndsIn (Fits l.rest) l.left

abbrev pub decreases-loop-others : goal.decreases-loop-others
decreases-loop-others l = length l.rest + length l.left
