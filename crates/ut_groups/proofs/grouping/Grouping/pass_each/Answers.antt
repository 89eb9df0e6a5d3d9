use Rattle.std.proofs.Common.{◌++◌, true}
use Rattle.ps_lines.specs.Lines.{lines}
use Rattle.ut_streams.proofs.StreamLemmas.{closed-rest, Wrote-last_line, Wrote-line_stopped, Wrote-next_line}
use Rattle.ut_groups.specs.Inner.Open.{due_behind, group_at}
use Rattle.ut_groups.proofs.grouping.Grouping.pass_each.Goals as goal

pub loop-line-preserved : goal.loop-line-preserved
loop-line-preserved c = (
  Wrote-next_line (λ more. due_behind c.args.self (group_at c.args.group.now) (lines c.args.text.now ++ more)) (due_behind c.args.self (group_at c.loop-line.group))
      (due_behind c.args.self (group_at c.pass.new.group)) c.loop-line.left.now c.in-Some.line.now c.in-Some.rest.now c.args.out.now.items c.loop-line.out.items c.pass.new.out.items true
      c.in-Some.ensures.cut c.loop-line.invariant.0 c.in-Ok.ensures,
  closed-rest c.loop-line.left.now c.in-Some.line.now c.in-Some.rest.now c.in-Some.ensures.cut c.loop-line.invariant.1,
)

pub returns-in-Err : goal.returns-in-Err
returns-in-Err c =
    Wrote-line_stopped (λ more. due_behind c.args.self (group_at c.args.group.now) (lines c.args.text.now ++ more)) (due_behind c.args.self (group_at c.pass.new.group))
    (due_behind c.args.self (group_at c.loop-line.group)) (due_behind c.args.self (group_at c.pass.new.group)) c.loop-line.left.now c.in-Some.line.now c.in-Some.rest.now c.args.out.now.items
    c.loop-line.out.items c.pass.new.out.items c.in-Some.ensures.cut c.loop-line.invariant.0 c.in-Err.ensures

pub returns : goal.returns
returns c =
    Wrote-last_line (λ more. due_behind c.args.self (group_at c.args.group.now) (lines c.args.text.now ++ more)) (due_behind c.args.self (group_at c.loop-line.group)) c.loop-line.left.now
    c.args.out.now.items c.loop-line.out.items c.loop-line.invariant.1 c.in_default.ensures.none c.loop-line.invariant.0
