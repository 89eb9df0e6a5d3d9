use Rattle.std.proofs.Common.{◌≡◌, ◌++◌, ◌||◌, ◌∙◌, ap, refl}
use mathlib.Core.Path.{fun_ext}
use Rattle.std.specs.List.{list_any}
use Rattle.ps_lines.specs.Lines.{lines}
use Rattle.ut_regex.specs.Answers.{answers}
use Rattle.ut_grep.specs.Output.{picked_by}
use Rattle.ut_grep.specs.Patterns.{head_by, name_of}
use Rattle.ut_grep.specs.Series.{is_silent}
use Rattle.ut_grep.specs.Tallies.{due_of, selects_of}
use Rattle.ut_grep.proofs.SeriesLemmas.{ended-selects, input-ended}
use Rattle.ut_grep.proofs.greps.GrepSeries.end_lines.Goals as goal

pub returns-clause-wrote : goal.returns-clause-wrote
returns-clause-wrote c =
    let series = c.args.self.now in
    let was = series.lines in
    let now = c.begin_next.new.lines in
    let test = picked_by was.each.inverts (answers was.each.matcher) in
    let test' = picked_by now.each.inverts (answers now.each.matcher) in
    input-ended series.report series.alone series.first test test' series.labels c.pass.new.self c.pass.ensures
    (λ line. ap (λ test. test line) c.begin_next.ensures.test ∙ c.in-Ok.ensures.tested line) (λ text. due_of was.each.tally test (lines (was.held.items ++ text)))
    now.each.tally now.held.items c.end.new.self.each.tally.selected c.args.out.now.items c.end.new.out.items c.in-Ok.ensures.wrote c.begin_next.ensures.report
    (c.begin_next.ensures.head ∙ c.in-Ok-head_by.ensures ∙ ap (λ label. head_by series.report series.alone (name_of label)) c.first.ensures) c.begin_next.ensures.number
    c.begin_next.ensures.count c.begin_next.ensures.selected c.begin_next.ensures.held

pub returns-clause-selects : goal.returns-clause-selects
returns-clause-selects c =
    let series = c.args.self.now in
    let was = series.lines in
    let found = c.end.new.self.each.tally.selected in
    let now = c.begin_next.new.lines in
    let test = picked_by was.each.inverts (answers was.each.matcher) in
    let test' = picked_by now.each.inverts (answers now.each.matcher) in
    let same : test' ≡ test = fun_ext (λ line. ap (λ test. test line) c.begin_next.ensures.test ∙ c.in-Ok.ensures.tested line) in
    ended-selects series.report series.alone series.first test test' series.labels c.pass.new.self c.pass.ensures
    (λ line. ap (λ test. test line) c.begin_next.ensures.test ∙ c.in-Ok.ensures.tested line) (λ text. due_of was.each.tally test (lines (was.held.items ++ text)))
    series.selected (series.selected || found) found (is_silent series.report) now.each.tally.selected (λ text. selects_of was.each.tally test (lines (was.held.items ++ text)))
    (λ text. selects_of now.each.tally test' (lines (now.held.items ++ text))) c.in-Ok.ensures.selected refl c.begin_next.ensures.selected
    (λ text i. now.each.tally.selected || list_any (same i) (lines (c.begin_next.ensures.held i ++ text)))
