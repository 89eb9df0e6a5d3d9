use Rattle.std.proofs.Common.{ℕ, ◌≡◌, ◌+◌, slice_index, ap, ap₂, ◌∙◌, arith}
use Rattle.ut_regex.specs.Inner.Lanes.{lesser, shared}
use Rattle.ut_regex.proofs.front_search.FrontSearch.least_lanes.Goals as goal

pub returns : goal.returns
returns c =
    let search = c.args.self.now in
    let byte = λ (at : ℕ). slice_index c.args.text.now at in
    record {
      long = c.lesser.ensures.long;
      each = λ lane low.
          let second : c.args.place + 1 + lane ≡ c.args.place + lane + 1 = omega arith in
          let third : c.args.place + 2 + lane ≡ c.args.place + lane + 2 = omega arith in
          let fourth : c.args.place + 3 + lane ≡ c.args.place + lane + 3 = omega arith in
          c.lesser.ensures.each lane low
          ∙ ap₂ lesser
          (c.lesser-front.ensures.each lane low
          ∙ ap₂ lesser (c.lanes-first.ensures.each lane low ∙ ap (shared search.first.lower) (c.load.ensures.each lane low))
          (c.lanes-second.ensures.each lane low ∙ ap (shared search.second.lower) (c.load-2.ensures.each lane low ∙ ap byte second)))
          (c.lesser-back.ensures.each lane low
          ∙ ap₂ lesser (c.lanes-third.ensures.each lane low ∙ ap (shared search.third.lower) (c.load-3.ensures.each lane low ∙ ap byte third))
          (c.lanes-fourth.ensures.each lane low ∙ ap (shared search.fourth.lower) (c.load-4.ensures.each lane low ∙ ap byte fourth)));
    }
