use Rattle.std.proofs.Common.{ℕ, arith}
use Rattle.std.proofs.lemmas.Bool.{eqb-true}
use Rattle.ut_regex.specs.Inner.Lanes.{least}
use Rattle.ut_regex.proofs.LaneLemmas.{zero-in-four}
use Rattle.ut_regex.proofs.front_search.FrontSearch.passes_over.Goals as goal

pub returns : goal.returns
returns c = λ all.
    let search = c.args.self.now in
    let counted = eqb-true c.zero_lanes.result 16 all in
    zero-in-four (λ (at : ℕ). least search.first.lower search.second.lower search.third.lower search.fourth.lower c.args.text.now at) c.args.place
    c.least_lanes-first.result c.least_lanes-second.result c.least_lanes-third.result c.least_lanes-fourth.result c.either-front.result c.either-back.result c.either.result
    c.least_lanes-first.ensures c.least_lanes-second.ensures c.least_lanes-third.ensures c.least_lanes-fourth.ensures c.either-front.ensures c.either-back.ensures
    c.either.ensures (λ lane low. c.zero_lanes.ensures.zero lane (omega (arith, counted, low)))
