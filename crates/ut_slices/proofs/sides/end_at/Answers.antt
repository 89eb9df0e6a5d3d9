use Rattle.std.proofs.Common.{refl}
use Rattle.std.specs.Result.{is_ok}
use Rattle.ut_slices.proofs.SideStepLemmas.{Wrote-ends}
use Rattle.ut_slices.proofs.sides.end_at.Goals as goal

pub returns-clause-wrote : goal.returns-clause-wrote
returns-clause-wrote c =
    Wrote-ends c.args.plan.now c.args.walk.now _ c.advance.new.walk c.args.port c.args.out.now.items c.advance.new.out.items (is_ok c.advance.result)
    c.end.ensures.waiting c.end.ensures.open (refl, refl, refl, refl, refl) c.advance.ensures.goes
