use Rattle.std.proofs.Common.{◌∙◌, sym, take}
use Rattle.ut_sort.specs.LineOrders.{cmp_by}
use Rattle.ut_sort.specs.Merging.{step_of}
use Rattle.ut_sort.proofs.ChoiceLemmas.{leads-drop, leads-left, leads-none, leads-right}
use Rattle.ut_sort.proofs.choices.look_behind.Goals as goal

pub returns-in_default : goal.returns-in_default
returns-in_default c =
    leads-none (cmp_by c.args.order.now) c.args.order.now.unique c.args.sides.now c.args.port c.args.first c.args.size c.requires.leads
    (c.in_default.ensures.empty (sym c.is_open.ensures ∙ c.if-is_open.false)) (sym c.is_open.ensures ∙ c.if-is_open.false)

pub returns-in-PutLeft : goal.returns-in-PutLeft
returns-in-PutLeft c =
    leads-left (cmp_by c.args.order.now) c.args.order.now.unique c.args.sides.now c.args.port c.args.first c.args.size c.requires.leads c.in-Some.other c.in-Some.ensures.some
    (sym c.in-PutLeft.is ∙ c.step_by.ensures
    ∙ (λ i. step_of c.args.order.now.unique (cmp_by c.args.order.now (take c.args.size (c.held_of.ensures i)) (take c.in-Some.other (c.held_of-2.ensures i)))))

pub returns-in-DropRight : goal.returns-in-DropRight
returns-in-DropRight c =
    leads-drop (cmp_by c.args.order.now) c.args.order.now.unique c.args.sides.now c.args.port c.args.first c.args.size c.requires.leads c.in-Some.other c.in-Some.ensures.some
    (sym c.in-DropRight.is ∙ c.step_by.ensures
    ∙ (λ i. step_of c.args.order.now.unique (cmp_by c.args.order.now (take c.args.size (c.held_of.ensures i)) (take c.in-Some.other (c.held_of-2.ensures i)))))

pub returns-in-PutRight : goal.returns-in-PutRight
returns-in-PutRight c =
    leads-right (cmp_by c.args.order.now) c.args.order.now.unique c.args.sides.now c.args.port c.args.first c.args.size c.requires.leads c.in-Some.other c.in-Some.ensures.some
    (sym c.in-PutRight.is ∙ c.step_by.ensures
    ∙ (λ i. step_of c.args.order.now.unique (cmp_by c.args.order.now (take c.args.size (c.held_of.ensures i)) (take c.in-Some.other (c.held_of-2.ensures i)))))
