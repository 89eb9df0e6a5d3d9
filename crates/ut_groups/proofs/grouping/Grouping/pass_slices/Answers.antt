use Rattle.std.proofs.Common.{List, ℕ, ◌++◌, false, refl, arith}
use Rattle.ps_lines.specs.Lines.{lines}
use Rattle.ut_streams.proofs.StreamLemmas.{Wrote-broken}
use Rattle.ut_groups.specs.Inner.Open.{due_behind, group_at}
use Rattle.ut_groups.proofs.RunLemmas.{none_pending, pending-end, pending-more, pending-none, pending-written}
use Rattle.ut_groups.proofs.grouping.Grouping.pass_slices.Goals as goal

pub loop-run-init : goal.loop-run-init
loop-run-init c = none_pending c.args.self (group_at c.args.group.now) c.args.text.now c.args.out.now.items c.requires.closed c.requires.other

pub first_run-requires : goal.first_run-requires
first_run-requires c = c.loop-run.invariant.closed

pub loop-run-preserved-then-run-eq1 : goal.loop-run-preserved-then-run-eq1
loop-run-preserved-then-run-eq1 c =
    let run = c.in-Some.run' in
    pending-more c.args.self (λ more. due_behind c.args.self (group_at c.args.group.now) (lines c.args.text.now ++ more)) c.args.out.now.items
    (group_at c.loop-run.group)
    c.loop-run.unwritten.now c.loop-run.left.now c.loop-run.out.items run.group.first.now run.group.count run.behind_first.now run.behind.now
    c.requires.exact c.requires.all
    c.loop-run.invariant c.in-Some.ensures.run (group_at run.group) refl (omega (arith, c.if-run-eq1.true))

pub loop-run-preserved : goal.loop-run-preserved
loop-run-preserved c =
    let run = c.in-Some.run' in
    pending-none c.args.self (λ more. due_behind c.args.self (group_at c.args.group.now) (lines c.args.text.now ++ more)) c.args.out.now.items
    (group_at c.loop-run.group)
    c.loop-run.unwritten.now c.loop-run.left.now c.loop-run.out.items run.group.first.now run.group.count run.behind_first.now run.behind.now
    c.requires.exact c.requires.all
    c.loop-run.invariant c.in-Some.ensures.run (group_at run.group) c.up_to.result.now c.put-written.new.out.items refl c.up_to.ensures c.in-Ok.ensures

pub returns-in-Err : goal.returns-in-Err
returns-in-Err c =
    let run = c.in-Some.run' in
    let was = λ (more : List (List ℕ)). due_behind c.args.self (group_at c.args.group.now) (lines c.args.text.now ++ more) in
    Wrote-broken was (λ more. due_behind c.args.self (group_at run.group) (lines run.behind.now ++ more)) (due_behind c.args.self
    (group_at run.group)) c.args.out.now.items
    c.put-written.new.out.items
    (pending-written c.args.self was c.args.out.now.items (group_at c.loop-run.group)
    c.loop-run.unwritten.now c.loop-run.left.now c.loop-run.out.items run.group.first.now run.group.count run.behind_first.now run.behind.now
    c.requires.exact c.requires.all
    c.loop-run.invariant c.in-Some.ensures.run
    (group_at run.group) c.up_to.result.now c.put-written.new.out.items false refl c.up_to.ensures c.in-Err.ensures)

pub returns : goal.returns
returns c =
    pending-end c.args.self (λ more. due_behind c.args.self (group_at c.args.group.now) (lines c.args.text.now ++ more)) c.args.out.now.items
    (group_at c.loop-run.group)
    c.loop-run.unwritten.now c.loop-run.left.now c.loop-run.out.items c.put.new.out.items _ c.loop-run.invariant c.in_default.ensures.none c.put.ensures
