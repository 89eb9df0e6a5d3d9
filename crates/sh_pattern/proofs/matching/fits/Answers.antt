use Rattle.sh_pattern.proofs.FitLemmas.{at_star}
use Rattle.sh_pattern.proofs.matching.fits.Goals as goal

pub returns-in-AtStar : goal.returns-in-AtStar
returns-in-AtStar c = at_star c.in-AtStar.ensures.ends c.fits_an_ending.ensures
