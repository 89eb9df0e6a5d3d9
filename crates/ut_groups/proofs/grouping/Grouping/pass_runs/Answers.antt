use Rattle.std.proofs.Common.{List, ℕ, ◌++◌, true, false}
use Rattle.ps_lines.specs.Lines.{lines}
use Rattle.ut_streams.proofs.StreamLemmas.{Wrote-broken, Wrote-last_line}
use Rattle.ut_groups.specs.Inner.Open.{due_behind, group_at}
use Rattle.ut_groups.proofs.RunLemmas.{other-next, passed_run, run-other}
use Rattle.ut_groups.proofs.grouping.Grouping.pass_runs.Goals as goal

pub loop-run-preserved : goal.loop-run-preserved
loop-run-preserved c =
    let self = c.args.self in
    let left = c.loop-run.left.now in
    let line = c.in-Some.run'.group.first.now in
    let count = c.in-Some.run'.group.count in
    let behind_first = c.in-Some.run'.behind_first.now in
    let behind = c.in-Some.run'.behind.now in
    let run = c.in-Some.ensures.run in (
      passed_run self (group_at c.loop-run.group) left line count behind_first behind c.requires.exact run
          (run-other self.skip c.loop-run.group.first.now left line count behind_first behind c.loop-run.invariant.2 run)
          (λ more. due_behind self (group_at c.args.group.now) (lines c.args.text.now ++ more))
          (group_at c.change.new.group) c.args.out.now.items c.loop-run.out.items
          c.change.new.out.items true c.change.ensures.changed c.loop-run.invariant.0 c.in-Ok.ensures.wrote,
      run.closed,
      other-next self (group_at c.change.new.group) left line count behind_first behind c.requires.exact run c.change.ensures.changed,
    )

pub returns-in-Err : goal.returns-in-Err
returns-in-Err c =
    let self = c.args.self in
    let left = c.loop-run.left.now in
    let line = c.in-Some.run'.group.first.now in
    let count = c.in-Some.run'.group.count in
    let behind_first = c.in-Some.run'.behind_first.now in
    let behind = c.in-Some.run'.behind.now in
    let run = c.in-Some.ensures.run in
    let was = λ (more : List (List ℕ)). due_behind self (group_at c.args.group.now) (lines c.args.text.now ++ more) in
    Wrote-broken was (λ more. due_behind self (group_at c.change.new.group) (lines behind ++ more)) (due_behind self
    (group_at c.change.new.group)) c.args.out.now.items c.change.new.out.items
    (passed_run self (group_at c.loop-run.group) left line count behind_first behind c.requires.exact run
    (run-other self.skip c.loop-run.group.first.now left line count behind_first behind c.loop-run.invariant.2 run)
    was (group_at c.change.new.group) c.args.out.now.items c.loop-run.out.items c.change.new.out.items false c.change.ensures.changed
    c.loop-run.invariant.0 c.in-Err.ensures.wrote)

pub returns : goal.returns
returns c =
    Wrote-last_line (λ more. due_behind c.args.self (group_at c.args.group.now) (lines c.args.text.now ++ more)) (due_behind c.args.self
    (group_at c.loop-run.group)) c.loop-run.left.now
    c.args.out.now.items c.loop-run.out.items c.loop-run.invariant.1 c.in_default.ensures.none c.loop-run.invariant.0
