use Rattle.std.proofs.Common.{◌≡◌, ◌<◌, ap, arith, inl, inr, length, sym, ◌∙◌}
use Rattle.std.proofs.lemmas.Bool.{cases_lt}
use Rattle.ut_regex.specs.Inner.Tables.{states_of, state_at}
use Rattle.ut_regex.proofs.TableLemmas.{state_there}
use Rattle.ut_regex.proofs.table.place_of.Goals as goal

pub loop-place-preserved : goal.loop-place-preserved
loop-place-preserved c = λ place within same.
    let rows = c.args.rows.now in
    let here = c.loop-place.place in
    let there : here < length rows = omega (arith, c.loop-place-test.true) in
    let state = state_there rows c.index-rows-place.result here c.index-rows-place.is there in
    elim (cases_lt place here) [
      | inl earlier ↦ c.loop-place.invariant place earlier same
      | inr ge ↦
          let last : place ≡ here = omega arith in
          let known = c.is_same.ensures.1 (sym state ∙ ap (state_at (states_of rows)) (sym last) ∙ same) in cc
    ]
