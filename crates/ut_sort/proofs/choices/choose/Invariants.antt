use Rattle.ut_sort.specs.Choices.{Chosen}
use Rattle.ut_sort.specs.LineOrders.{cmp_by}
use Rattle.ut_sort.proofs.choices.choose.Given as goal

abbrev pub invariant-loop-port : goal.invariant-loop-port
invariant-loop-port l = Chosen (cmp_by l.order) l.order.unique l.sides l.port l.choice
