use Rattle.std.proofs.Common.{sym, ◌∙◌}
use Rattle.ut_streams.proofs.StreamLemmas.{closed-rest}
use Rattle.ut_sort.specs.Merging.{merged_with}
use Rattle.ut_sort.specs.Order.{order_of}
use Rattle.ut_sort.proofs.MergingLemmas.{left_put, left_stop, right_drop, right_put, right_stop}
use Rattle.ut_sort.proofs.merging.merge_some.Goals as goal

pub loop-line-preserved-in-Ok : goal.loop-line-preserved-in-Ok
loop-line-preserved-in-Ok c = (
  left_put (order_of c.args.inv.now.args) c.args.inv.now.args.unique (merged_with (order_of c.args.inv.now.args) c.args.inv.now.args.unique c.args.left.now c.args.right.now) c.loop-line.lefts.now c.loop-line.rights.now
      c.in-Some.line.now c.in-Some-cut_line.other.now c.in-Some.left_rest.now c.in-Some-cut_line.right_rest.now c.args.out.now.items c.loop-line.out.items c.in-Some.ensures.cut
      c.in-Some-cut_line.ensures.cut c.loop-line.invariant.0
      c.put_line.new.out.items (sym c.in-PutLeft.is ∙ c.step_of.ensures) c.in-Ok.ensures,
  λ closed. closed-rest c.loop-line.lefts.now c.in-Some.line.now c.in-Some.left_rest.now c.in-Some.ensures.cut (c.loop-line.invariant.1 closed),
  c.loop-line.invariant.2,
)

pub returns-in-Err-clause-wrote : goal.returns-in-Err-clause-wrote
returns-in-Err-clause-wrote c =
    left_stop (order_of c.args.inv.now.args) c.args.inv.now.args.unique (merged_with (order_of c.args.inv.now.args) c.args.inv.now.args.unique c.args.left.now c.args.right.now) c.loop-line.lefts.now c.loop-line.rights.now
    c.in-Some.line.now c.in-Some-cut_line.other.now c.in-Some.left_rest.now c.in-Some-cut_line.right_rest.now c.args.out.now.items c.loop-line.out.items c.in-Some.ensures.cut
    c.in-Some-cut_line.ensures.cut c.loop-line.invariant.0
    c.put_line.new.out.items (sym c.in-PutLeft.is ∙ c.step_of.ensures) c.in-Err.ensures

pub loop-line-preserved-in-DropRight : goal.loop-line-preserved-in-DropRight
loop-line-preserved-in-DropRight c = (
  right_drop (order_of c.args.inv.now.args) c.args.inv.now.args.unique (merged_with (order_of c.args.inv.now.args) c.args.inv.now.args.unique c.args.left.now c.args.right.now) c.loop-line.lefts.now c.loop-line.rights.now
      c.in-Some.line.now c.in-Some-cut_line.other.now c.in-Some.left_rest.now c.in-Some-cut_line.right_rest.now c.args.out.now.items c.loop-line.out.items c.in-Some.ensures.cut
      c.in-Some-cut_line.ensures.cut c.loop-line.invariant.0
      (sym c.in-DropRight.is ∙ c.step_of.ensures),
  c.loop-line.invariant.1,
  λ closed. closed-rest c.loop-line.rights.now c.in-Some-cut_line.other.now c.in-Some-cut_line.right_rest.now c.in-Some-cut_line.ensures.cut (c.loop-line.invariant.2 closed),
)

pub loop-line-preserved : goal.loop-line-preserved
loop-line-preserved c = (
  right_put (order_of c.args.inv.now.args) c.args.inv.now.args.unique (merged_with (order_of c.args.inv.now.args) c.args.inv.now.args.unique c.args.left.now c.args.right.now) c.loop-line.lefts.now c.loop-line.rights.now
      c.in-Some.line.now c.in-Some-cut_line.other.now c.in-Some.left_rest.now c.in-Some-cut_line.right_rest.now c.args.out.now.items c.loop-line.out.items c.in-Some.ensures.cut
      c.in-Some-cut_line.ensures.cut c.loop-line.invariant.0
      c.put_line-in-PutRight.new.out.items (sym c.in-PutRight.is ∙ c.step_of.ensures) c.in-Ok-put_line.ensures,
  c.loop-line.invariant.1,
  λ closed. closed-rest c.loop-line.rights.now c.in-Some-cut_line.other.now c.in-Some-cut_line.right_rest.now c.in-Some-cut_line.ensures.cut (c.loop-line.invariant.2 closed),
)

pub returns-in-Err-put_line-clause-wrote : goal.returns-in-Err-put_line-clause-wrote
returns-in-Err-put_line-clause-wrote c =
    right_stop (order_of c.args.inv.now.args) c.args.inv.now.args.unique (merged_with (order_of c.args.inv.now.args) c.args.inv.now.args.unique c.args.left.now c.args.right.now) c.loop-line.lefts.now c.loop-line.rights.now
    c.in-Some.line.now c.in-Some-cut_line.other.now c.in-Some.left_rest.now c.in-Some-cut_line.right_rest.now c.args.out.now.items c.loop-line.out.items c.in-Some.ensures.cut
    c.in-Some-cut_line.ensures.cut c.loop-line.invariant.0
    c.put_line-in-PutRight.new.out.items (sym c.in-PutRight.is ∙ c.step_of.ensures) c.in-Err-put_line.ensures
