use Rattle.std.proofs.Common.{sym, ap, subst, ◌∙◌}
use Rattle.ut_regex.specs.Inner.Tables.{left_at_found, BeginsLines}
use Rattle.ut_regex.proofs.TextLemmas.{left-in-first, left-in-second, left-in-third, left-in-fourth}
use Rattle.ut_regex.proofs.texts.TextTable.left_in_quarters.Goals as goal

pub returns-in-Some-clause-found : goal.returns-in-Some-clause-found
returns-in-Some-clause-found c =
    let runs = c.run_over_four-runs.ensures in
    let cut = c.cut_at_line.ensures in
    let closed = cut.closed c.requires in
    left-in-first c.as_slice-next.result.now (subst BeginsLines (sym c.as_slice-next.ensures.value) c.args.self.now.begins) c.args.text.now
    c.cut_at_line.result.0.now c.cut_at_line.result.1.now c.cut_at_line-2.result.0.now c.cut_at_line-2.result.1.now c.cut_at_line-3.result.0.now c.cut_at_line-3.result.1.now
    cut.whole c.cut_at_line-2.ensures.whole c.cut_at_line-3.ensures.whole closed.0 (c.cut_at_line-2.ensures.closed closed.0).0 (c.cut_at_line-3.ensures.closed closed.1).0
    c.in-Some.left (c.in-Some.ensures.found ∙ runs.first.0)
    ∙ ap (λ entries. left_at_found entries 0 c.args.text.now) c.as_slice-next.ensures.value

pub returns-in-Some-run_on-clause-found : goal.returns-in-Some-run_on-clause-found
returns-in-Some-run_on-clause-found c =
    let runs = c.run_over_four-runs.ensures in
    let cut = c.cut_at_line.ensures in
    let closed = cut.closed c.requires in
    left-in-second c.as_slice-next.result.now (subst BeginsLines (sym c.as_slice-next.ensures.value) c.args.self.now.begins) c.args.text.now
    c.cut_at_line.result.0.now c.cut_at_line.result.1.now c.cut_at_line-2.result.0.now c.cut_at_line-2.result.1.now c.cut_at_line-3.result.0.now c.cut_at_line-3.result.1.now
    cut.whole c.cut_at_line-2.ensures.whole c.cut_at_line-3.ensures.whole closed.0 (c.cut_at_line-2.ensures.closed closed.0).0 (c.cut_at_line-3.ensures.closed closed.1).0
    c.in-Some-run_on.left (c.in_default.ensures.found ∙ runs.first.0) (c.in-Some-run_on.ensures.found ∙ runs.second.0)
    ∙ ap (λ entries. left_at_found entries 0 c.args.text.now) c.as_slice-next.ensures.value

pub returns-in-Some-run_on-2-clause-found : goal.returns-in-Some-run_on-2-clause-found
returns-in-Some-run_on-2-clause-found c =
    let runs = c.run_over_four-runs.ensures in
    let cut = c.cut_at_line.ensures in
    let closed = cut.closed c.requires in
    left-in-third c.as_slice-next.result.now (subst BeginsLines (sym c.as_slice-next.ensures.value) c.args.self.now.begins) c.args.text.now
    c.cut_at_line.result.0.now c.cut_at_line.result.1.now c.cut_at_line-2.result.0.now c.cut_at_line-2.result.1.now c.cut_at_line-3.result.0.now c.cut_at_line-3.result.1.now
    cut.whole c.cut_at_line-2.ensures.whole c.cut_at_line-3.ensures.whole closed.0 (c.cut_at_line-2.ensures.closed closed.0).0 (c.cut_at_line-3.ensures.closed closed.1).0
    c.in-Some-run_on-2.left (c.in_default.ensures.found ∙ runs.first.0) (c.in_default-run_on.ensures.found ∙ runs.second.0) (c.in-Some-run_on-2.ensures.found ∙ runs.third.0)
    ∙ ap (λ entries. left_at_found entries 0 c.args.text.now) c.as_slice-next.ensures.value

pub returns-clause-found : goal.returns-clause-found
returns-clause-found c =
    let runs = c.run_over_four-runs.ensures in
    let cut = c.cut_at_line.ensures in
    let closed = cut.closed c.requires in
    c.run_on-4.ensures.found ∙ runs.fourth.0
    ∙ left-in-fourth c.as_slice-next.result.now (subst BeginsLines (sym c.as_slice-next.ensures.value) c.args.self.now.begins) c.args.text.now
    c.cut_at_line.result.0.now c.cut_at_line.result.1.now c.cut_at_line-2.result.0.now c.cut_at_line-2.result.1.now c.cut_at_line-3.result.0.now c.cut_at_line-3.result.1.now
    cut.whole c.cut_at_line-2.ensures.whole c.cut_at_line-3.ensures.whole closed.0 (c.cut_at_line-2.ensures.closed closed.0).0 (c.cut_at_line-3.ensures.closed closed.1).0
    (c.in_default.ensures.found ∙ runs.first.0) (c.in_default-run_on.ensures.found ∙ runs.second.0) (c.in_default-run_on-2.ensures.found ∙ runs.third.0)
    ∙ ap (λ entries. left_at_found entries 0 c.args.text.now) c.as_slice-next.ensures.value
