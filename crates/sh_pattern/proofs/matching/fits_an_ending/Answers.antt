use Rattle.std.proofs.Common.{arith}
use Rattle.sh_pattern.proofs.FitLemmas.{ending_at_star, ending_from_star, ending_later, ending_more, passed_pattern, passed_text}
use Rattle.sh_pattern.proofs.matching.fits_an_ending.Goals as goal

pub loop-others-smaller-in-AtStar : goal.loop-others-smaller-in-AtStar
loop-others-smaller-in-AtStar c = omega (arith, passed_pattern c.in-AtStar.ensures.ends, passed_text c.in-AtStar.ensures.ends)

pub loop-others-preserved-in-AtStar : goal.loop-others-preserved-in-AtStar
loop-others-preserved-in-AtStar c =
    let walk = c.in-AtStar.ensures.ends in
    (λ f. ending_at_star walk (c.loop-others.invariant.0 f), λ f. c.loop-others.invariant.1 (ending_from_star walk f))

pub loop-others-preserved : goal.loop-others-preserved
loop-others-preserved c =
    let cut = c.in-Some.ensures.cases.0 in
    (λ f. ending_later _ cut c.in-Astray.ensures.ends (c.loop-others.invariant.0 f), λ f. c.loop-others.invariant.1 (ending_more _ cut f))
