use Rattle.std.proofs.Common.{ℕ, refl, arith}
use Rattle.ut_regex.specs.Inner.Lanes.{least}
use Rattle.ut_regex.proofs.FrontLemmas.{walked}
use Rattle.ut_regex.proofs.LaneLemmas.{zero-lanes}
use Rattle.ut_regex.proofs.front_search.FrontSearch.first_place.Goals as goal

pub loop-place-preserved-then-passes_over : goal.loop-place-preserved-then-passes_over
loop-place-preserved-then-passes_over c =
    let search = c.args.self.now in
    let room = c.loop-place-test.true in
    let within = c.loop-place.invariant.within in
    record {
      within = omega (arith, room, within);
      passed =
          walked search.fold search.leaves.items search.first.lower search.second.lower search.third.lower search.fourth.lower search.first_covers search.second_covers
          search.third_covers search.fourth_covers c.args.text.now (λ at. let byte = c.type_inv.text at in omega (arith, byte)) c.loop-place.place 64
          c.loop-place.invariant.passed (c.if-passes_over.ensures refl);
    }

pub returns-then-count-lt-LANES-clause-first : goal.returns-then-count-lt-LANES-clause-first
returns-then-count-lt-LANES-clause-first c =
    let search = c.args.self.now in
    walked search.fold search.leaves.items search.first.lower search.second.lower search.third.lower search.fourth.lower search.first_covers search.second_covers
    search.third_covers search.fourth_covers c.args.text.now (λ at. let byte = c.type_inv.text at in omega (arith, byte)) c.loop-place.place c.zero_lanes-count.result
    c.loop-place.invariant.passed
    (zero-lanes (λ (at : ℕ). least search.first.lower search.second.lower search.third.lower search.fourth.lower c.args.text.now at) c.loop-place.place c.least_lanes.result
    c.zero_lanes-count.result c.least_lanes.ensures c.zero_lanes-count.ensures.within c.zero_lanes-count.ensures.zero)

pub loop-place-preserved : goal.loop-place-preserved
loop-place-preserved c =
    let search = c.args.self.now in
    let room = c.loop-place-test.true in
    let within = c.loop-place.invariant.within in
    let all = c.if-count-lt-LANES.false in
    record {
      within = omega (arith, room, within);
      passed =
          walked search.fold search.leaves.items search.first.lower search.second.lower search.third.lower search.fourth.lower search.first_covers search.second_covers
          search.third_covers search.fourth_covers c.args.text.now (λ at. let byte = c.type_inv.text at in omega (arith, byte)) c.loop-place.place 16
          c.loop-place.invariant.passed
          (zero-lanes (λ (at : ℕ). least search.first.lower search.second.lower search.third.lower search.fourth.lower c.args.text.now at) c.loop-place.place c.least_lanes.result
          16 c.least_lanes.ensures (omega arith) (λ lane low. c.zero_lanes-count.ensures.zero lane (omega (arith, all, low))));
    }
