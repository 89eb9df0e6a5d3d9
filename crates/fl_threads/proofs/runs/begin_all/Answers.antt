use Rattle.std.proofs.Common.{rules, ◌≡◌, length}
use Rattle.std.proofs.lemmas.List.{nil_from_length}
use Rattle.fl_threads.proofs.Rows.{begun-more, given-more}
use Rattle.fl_threads.proofs.runs.begin_all.Goals as goal

pub loop-job-preserved-in-Ok : goal.loop-job-preserved-in-Ok
loop-job-preserved-in-Ok g c =
    let none : length c.loop-job.here.items ≡ 0 = search rules in (
      begun-more _ _ _ _ _ _ _ _ _ c.push_reserved-in-Ok.ensures.items c.in-Some.ensures.steps.0 (nil_from_length _ none) c.in-Ok.ensures.1
          c.loop-job.invariant.0,
      given-more _ _ _ _ c.push_reserved-in-Ok.ensures.items c.loop-job.invariant.1 c.in-Ok.ensures.0,
      search rules,
      search rules,
      search rules,
    )
