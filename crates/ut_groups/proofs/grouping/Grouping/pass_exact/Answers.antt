use Rattle.std.proofs.Common.{List, ℕ, ◌++◌, true, refl, sym, ◌∙◌}
use Rattle.ps_lines.specs.Lines.{lines}
use Rattle.ut_streams.proofs.StreamLemmas.{Wrote-last_line, Wrote-same}
use Rattle.ut_groups.specs.Inner.Open.{due_behind, group_at}
use Rattle.ut_groups.proofs.RunLemmas.{other-first, other-same, passed_run-same}
use Rattle.ut_groups.proofs.grouping.Grouping.pass_exact.Goals as goal

pub returns-in_default : goal.returns-in_default
returns-in_default c =
    let was = λ (more : List (List ℕ)). due_behind c.args.self (group_at c.args.group.now) (lines c.args.text.now ++ more) in
    let old = c.args.out.now.items in
    Wrote-last_line was (due_behind c.args.self (group_at c.args.group.now)) c.args.text.now old old c.requires.closed c.in_default.ensures.none
    (Wrote-same was was old true (λ ok more. refl))

pub pass_others-requires-clause-other : goal.pass_others-requires-clause-other
pass_others-requires-clause-other c =
    let run = c.in-Some.run' in
    other-same c.args.self c.args.group.now.first.now c.args.text.now run.group.first.now run.group.count run.behind_first.now run.behind.now c.requires.exact
    (sym c.is_same.ensures ∙ c.if-is_same.true) c.in-Some.ensures.run

pub returns-then-is_same : goal.returns-then-is_same
returns-then-is_same c =
    let run = c.in-Some.run' in
    passed_run-same c.args.self
    (group_at c.args.group.now) c.args.text.now run.group.first.now run.group.count run.behind_first.now run.behind.now c.requires.exact c.in-Some.ensures.run
    (sym c.is_same.ensures
    ∙ c.if-is_same.true) c.add_sat-group.result c.add_sat-group.ensures (due_behind c.args.self (group_at c.pass_others.new.group)) c.args.out.now.items
    c.pass_others.new.out.items _ c.pass_others.ensures

pub pass_others-requires-2-clause-other : goal.pass_others-requires-2-clause-other
pass_others-requires-2-clause-other c =
    let run = c.in-Some.run' in
    other-first c.args.self.skip c.args.group.now.first.now c.args.text.now run.group.first.now run.group.count run.behind_first.now run.behind.now
    c.in-Some.ensures.run
    (sym c.is_same.ensures ∙ c.if-is_same.false)
