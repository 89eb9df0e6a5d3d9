use Rattle.std.proofs.Common.{rules, ◌≡◌, true, drop}
use Rattle.sh_pattern.specs.Standing.{from_side, begins_with_star}
use Rattle.sh_pattern.proofs.StandingLemmas.{star_taken}
use Rattle.sh_pattern.proofs.trims.step_from.Goals as goal

pub returns : goal.returns
returns c =
    let p = from_side c.args.side c.args.elements.now in
    let star : begins_with_star (drop c.args.place p) ≡ true = search rules in
    star_taken c.add_taken-2.result p c.args.place c.past_stars.result c.args.byte c.args.next.now.items c.add.new.places.items c.add_taken-2.new.next.items star c.past_stars.ensures.same c.in_ok-add.ensures c.add_taken-2.ensures
