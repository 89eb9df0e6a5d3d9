use Rattle.std.proofs.Common.{rules, ◌≡◌, None}
use Rattle.ut_sort.specs.LineOrders.{cmp_by}
use Rattle.ut_sort.specs.Sides.{first_waiting}
use Rattle.ut_sort.proofs.MergerLemmas.{done-due}
use Rattle.ut_sort.proofs.mergers.MergerPortStream.needs.Goals as goal

pub returns-in-None-clause-none : goal.returns-in-None-clause-none
returns-in-None-clause-none c = λ port.
    let merger = c.args.self.now in
    let none : first_waiting 0 merger.sides.items ≡ None = search rules in
    (merger.settled c.requires none port).1

pub returns-in-None-clause-whole : goal.returns-in-None-clause-whole
returns-in-None-clause-whole c = λ texts.
    let merger = c.args.self.now in
    let none : first_waiting 0 merger.sides.items ≡ None = search rules in
    done-due (cmp_by merger.order) merger.order.unique merger.sides.items (merger.settled c.requires none) texts
