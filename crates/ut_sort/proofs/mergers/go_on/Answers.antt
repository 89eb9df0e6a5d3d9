use Rattle.std.proofs.Common.{◌∷◌, ◌++◌, ◌∙◌, [], length, take, true, false, ap, subst}
use Rattle.ut_streams.specs.Streams.{Put}
use Rattle.ut_sort.specs.Choices.{IsLeftOut, Leads}
use Rattle.ut_sort.specs.LineOrders.{cmp_by}
use Rattle.ut_sort.specs.Sides.{held_at}
use Rattle.ut_sort.proofs.MergerLemmas.{Goes-left, Goes-put, Goes-stopped}
use Rattle.ut_sort.proofs.mergers.go_on.Goals as goal

pub returns-in-Ok-clause-goes : goal.returns-in-Ok-clause-goes
returns-in-Ok-clause-goes c =
    let cmp = cmp_by c.args.order.now in
    Goes-put cmp c.args.order.now.unique c.args.sides.now.items c.pass.new.sides.items c.in-Put.port c.in-Put.size c.pass.ensures.held c.pass.ensures.open c.pass.ensures.counted
    c.args.out.now.items c.put_line.new.out.items
    (subst (λ sides. Leads cmp c.args.order.now.unique sides (length sides) c.in-Put.port c.in-Put.size) c.as_slice.ensures.value c.in-Put.ensures)
    (subst (λ text. Put (take c.in-Put.size text ++ 10 ∷ []) c.args.out.now.items c.put_line.new.out.items true)
    (c.held_of.ensures ∙ ap (λ sides. held_at sides c.in-Put.port) c.as_slice-in-Put.ensures.value) c.in-Ok.ensures)

pub returns-in-Err-clause-goes : goal.returns-in-Err-clause-goes
returns-in-Err-clause-goes c =
    let cmp = cmp_by c.args.order.now in
    Goes-stopped cmp c.args.order.now.unique c.args.sides.now.items c.in-Put.port c.in-Put.size c.args.out.now.items c.put_line.new.out.items
    (subst (λ sides. Leads cmp c.args.order.now.unique sides (length sides) c.in-Put.port c.in-Put.size) c.as_slice.ensures.value c.in-Put.ensures)
    (subst (λ text. Put (take c.in-Put.size text ++ 10 ∷ []) c.args.out.now.items c.put_line.new.out.items false)
    (c.held_of.ensures ∙ ap (λ sides. held_at sides c.in-Put.port) c.as_slice-in-Put.ensures.value) c.in-Err.ensures)

pub returns-in-Leave-clause-goes : goal.returns-in-Leave-clause-goes
returns-in-Leave-clause-goes c =
    let cmp = cmp_by c.args.order.now in
    Goes-left cmp c.args.order.now.unique c.args.sides.now.items c.pass-in-Leave.new.sides.items c.in-Leave.port c.in-Leave.size c.pass-in-Leave.ensures.held
    c.pass-in-Leave.ensures.open c.pass-in-Leave.ensures.counted c.args.out.now.items
    (subst (λ sides. IsLeftOut cmp c.args.order.now.unique sides (length sides) c.in-Leave.port c.in-Leave.size) c.as_slice.ensures.value c.in-Leave.ensures)
