use Rattle.std.proofs.Common.{◌∙◌}
use Rattle.ut_sort.specs.LineOrders.{cmp_by}
use Rattle.ut_sort.specs.Merging.{merged_of}
use Rattle.ut_sort.specs.Order.{lines_cmp}
use Rattle.ut_sort.proofs.MergerLemmas.{fresh-due}
use Rattle.ut_sort.proofs.mergers.Merger.new.Goals as goal

pub returns-clause-due : goal.returns-clause-due
returns-clause-due c = λ texts.
    let order = c.in_ok-order.order in
    let is = c.in_ok-order.ensures in
    fresh-due (cmp_by order) order.unique c.in_ok-sides.sides.items c.args.ports c.in_ok-sides.ensures.empty c.in_ok-sides.ensures.all_open c.in_ok-sides.ensures.counted texts
    ∙ (λ i. merged_of (λ one other. lines_cmp (is.separator i) (is.keys i) (is.unique i) (is.reverse i) one other) (is.unique i) texts c.args.ports)
