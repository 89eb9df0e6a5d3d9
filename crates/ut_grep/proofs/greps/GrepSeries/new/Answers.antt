use Rattle.std.proofs.Common.{◌≡◌, ◌∙◌, ap, false, refl}
use Rattle.std.specs.List.{flat_map, list_any}
use Rattle.ut_streams.specs.Utilities.{Input, labelled}
use Rattle.ut_regex.specs.Answers.{answers}
use Rattle.ut_grep.specs.Output.{picked_by}
use Rattle.ut_grep.specs.Patterns.{head_of, selects, written}
use Rattle.ut_grep.specs.declared.selection.Selection.{Selection}
use Rattle.ut_grep.proofs.SeriesLemmas.{series-selects, series-written}
use Rattle.ut_grep.proofs.greps.GrepSeries.new.Goals as goal

pub returns-clause-due : goal.returns-clause-due
returns-clause-due c = λ texts.
    let args = c.args.inv.now.args in
    let lines = c.new.result in
    let each = lines.each in
    let is = c.new.ensures.each in
    let facts = c.in-Ok-selection_of.ensures in
    series-written args c.in-Ok.labels each.tally (picked_by each.inverts (answers each.matcher)) lines.held.items c.has_at_most_one.result c.first_number.result
    (ap (λ (each : Selection). picked_by each.inverts (answers each.matcher)) is ∙ facts.test) (ap (λ (each : Selection). each.tally.report) is ∙ facts.report)
    (ap (λ (each : Selection). each.tally.head.items) is ∙ facts.head ∙ ap (head_of args) c.first.ensures) (ap (λ (each : Selection). each.tally.number) is ∙ facts.number)
    (ap (λ (each : Selection). each.tally.count) is ∙ facts.count) (ap (λ (each : Selection). each.tally.selected) is ∙ facts.selected) c.new.ensures.held args.report refl
    c.has_at_most_one.ensures c.first_number.ensures texts
    ∙ ap (λ labels. flat_map (λ (input : Input). written args input.label input.text) (labelled labels texts)) c.in-Ok.ensures

pub returns-clause-selects : goal.returns-clause-selects
returns-clause-selects c = λ texts.
    let args = c.args.inv.now.args in
    let lines = c.new.result in
    let each = lines.each in
    let is = c.new.ensures.each in
    let facts = c.in-Ok-selection_of.ensures in
    series-selects args c.in-Ok.labels each.tally (picked_by each.inverts (answers each.matcher)) lines.held.items c.has_at_most_one.result c.first_number.result
    (ap (λ (each : Selection). picked_by each.inverts (answers each.matcher)) is ∙ facts.test) (ap (λ (each : Selection). each.tally.report) is ∙ facts.report)
    (ap (λ (each : Selection). each.tally.head.items) is ∙ facts.head ∙ ap (head_of args) c.first.ensures) (ap (λ (each : Selection). each.tally.number) is ∙ facts.number)
    (ap (λ (each : Selection). each.tally.count) is ∙ facts.count) (ap (λ (each : Selection). each.tally.selected) is ∙ facts.selected) c.new.ensures.held args.report refl
    c.has_at_most_one.ensures c.first_number.ensures false refl texts
    ∙ ap (λ labels. list_any (λ (input : Input). selects args input.text) (labelled labels texts)) c.in-Ok.ensures
