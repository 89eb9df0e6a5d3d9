use Rattle.std.proofs.Common.{refl}
use Rattle.std.specs.Result.{is_ok}
use Rattle.ut_slices.proofs.SideStepLemmas.{Wrote-held}
use Rattle.ut_slices.proofs.sides.feed.Goals as goal

pub returns-in-Ok-clause-wrote : goal.returns-in-Ok-clause-wrote
returns-in-Ok-clause-wrote c =
    Wrote-held c.args.plan.now c.args.walk.now _ c.advance.new.walk c.args.port c.args.piece.now c.args.out.now.items c.advance.new.out.items (is_ok c.advance.result)
    c.requires.open c.in-Ok.ensures.waiting c.hold.ensures.open (refl, refl, refl, refl, refl) c.advance.ensures.goes
