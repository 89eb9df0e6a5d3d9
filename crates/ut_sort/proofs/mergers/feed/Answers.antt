use Rattle.std.specs.Result.{is_ok}
use Rattle.ut_sort.specs.LineOrders.{cmp_by}
use Rattle.ut_sort.proofs.MergerLemmas.{Wrote-held}
use Rattle.ut_sort.proofs.mergers.feed.Goals as goal

pub returns-in-Ok-clause-wrote : goal.returns-in-Ok-clause-wrote
returns-in-Ok-clause-wrote c =
    Wrote-held (cmp_by c.args.order.now) c.args.order.now.unique c.args.sides.now.items c.hold.new.sides.items c.args.port c.hold.ensures.counted c.advance.new.sides.items
    c.args.piece.now c.args.out.now.items c.advance.new.out.items (is_ok c.advance.result) c.requires.waiting c.in-Ok.ensures.held c.hold.ensures.open c.advance.ensures.goes
