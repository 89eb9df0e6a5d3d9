use Rattle.ut_sort.specs.Order.{order_of}
use Rattle.ut_sort.proofs.MergingLemmas.{merge_all, merge_stopped}
use Rattle.ut_sort.proofs.merging.merge.Goals as goal

pub returns-in-Ok : goal.returns-in-Ok
returns-in-Ok c =
    merge_all (order_of c.args.inv.now.args) c.args.inv.now.args.unique c.args.left.now c.args.right.now c.in-Ok.left.now c.in-Ok.right.now c.args.out.now.items
    c.merge_some.new.out.items c.put_rests.new.out.items _ (c.in-Ok.ensures.left c.requires.left) (c.in-Ok.ensures.right c.requires.right) c.in-Ok.ensures.plain
    c.in-Ok.ensures.wrote c.put_rests.ensures

pub returns-in-Err : goal.returns-in-Err
returns-in-Err c =
    merge_stopped (order_of c.args.inv.now.args) c.args.inv.now.args.unique c.args.left.now c.args.right.now c.args.out.now.items c.merge_some.new.out.items
    c.in-Err.ensures.wrote
