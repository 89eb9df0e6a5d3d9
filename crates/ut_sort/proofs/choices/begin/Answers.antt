use Rattle.ut_sort.specs.LineOrders.{cmp_by}
use Rattle.ut_sort.proofs.ChoiceLemmas.{begin-put}
use Rattle.ut_sort.proofs.choices.begin.Goals as goal

pub returns-in-Some : goal.returns-in-Some
returns-in-Some c = begin-put (cmp_by c.args.order.now) c.args.order.now.unique c.args.sides.now c.args.port c.in-Some.size c.requires.done c.in-Some.ensures.some
