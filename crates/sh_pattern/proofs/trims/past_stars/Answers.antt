use Rattle.std.proofs.Common.{rules, ◌≡◌, true, drop}
use Rattle.sh_pattern.specs.Standing.{from_side, begins_with_star}
use Rattle.sh_pattern.proofs.StandingLemmas.{past_one}
use Rattle.sh_pattern.proofs.trims.past_stars.Goals as goal

pub stars-preserved : goal.stars-preserved
stars-preserved c =
    let star : begins_with_star (drop c.stars.at (from_side c.args.side c.args.elements.now)) ≡ true = search rules in
    past_one (from_side c.args.side c.args.elements.now) c.args.place c.stars.at star c.stars.invariant
