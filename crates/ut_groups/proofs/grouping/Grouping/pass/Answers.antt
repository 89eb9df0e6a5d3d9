use Rattle.std.proofs.Common.{sym, ◌∙◌}
use Rattle.ut_groups.specs.Inner.Open.{group_at}
use Rattle.ut_groups.proofs.GroupingLemmas.{passed-other, passed-same}
use Rattle.ut_groups.proofs.grouping.Grouping.pass.Goals as goal

pub returns-then-is_same : goal.returns-then-is_same
returns-then-is_same c =
    passed-same c.args.self (group_at c.args.group.now) (group_at c.group_of-next.result) c.args.line.now c.group_of-next.ensures
    (sym c.is_same.ensures ∙ c.if-is_same.true) c.add_sat-group.result c.add_sat-group.ensures c.args.out.now.items

pub returns : goal.returns
returns c =
    passed-other c.args.self (group_at c.args.group.now) (group_at c.group_of-next.result) c.args.line.now c.group_of-next.ensures
    (sym c.is_same.ensures
    ∙ c.if-is_same.false) (group_at c.change.new.group) c.args.out.now.items c.change.new.out.items _ c.change.ensures.changed c.change.ensures.wrote
