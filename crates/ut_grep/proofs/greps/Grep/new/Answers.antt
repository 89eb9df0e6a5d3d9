use Rattle.std.proofs.Common.{◌≡◌, ◌∙◌, ◌++◌, ap}
use Rattle.ps_lines.specs.Lines.{lines}
use Rattle.ut_regex.specs.Answers.{answers}
use Rattle.ut_grep.specs.Output.{picked_by}
use Rattle.ut_grep.specs.Patterns.{is_selected}
use Rattle.ut_grep.specs.Tallies.{due_of, selects_of}
use Rattle.ut_grep.specs.declared.selection.Selection.{Selection}
use Rattle.ut_grep.proofs.PatternLemmas.{due-written, selects-written}
use Rattle.ut_grep.proofs.greps.Grep.new.Goals as goal

pub returns-in-Ok-clause-due : goal.returns-in-Ok-clause-due
returns-in-Ok-clause-due c = λ text.
    let args = c.args.inv.now.args in
    let each = c.new.result.each in
    let is = c.new.ensures.each in
    let facts = c.in-Ok.ensures in
    let test : picked_by each.inverts (answers each.matcher) ≡ is_selected args = ap (λ (each : Selection). picked_by each.inverts (answers each.matcher)) is ∙ facts.test in
    ap (λ held. due_of each.tally (picked_by each.inverts (answers each.matcher)) (lines (held ++ text))) c.new.ensures.held
    ∙ due-written args c.args.label.now text each.tally each.inverts (answers each.matcher) (ap (λ (each : Selection). each.tally.report) is ∙ facts.report)
    (ap (λ (each : Selection). each.tally.head.items) is ∙ facts.head) (ap (λ (each : Selection). each.tally.number) is ∙ facts.number)
    (ap (λ (each : Selection). each.tally.count) is ∙ facts.count) (ap (λ (each : Selection). each.tally.selected) is ∙ facts.selected) test

pub returns-in-Ok-clause-selects : goal.returns-in-Ok-clause-selects
returns-in-Ok-clause-selects c = λ text.
    let args = c.args.inv.now.args in
    let each = c.new.result.each in
    let is = c.new.ensures.each in
    let facts = c.in-Ok.ensures in
    let test : picked_by each.inverts (answers each.matcher) ≡ is_selected args = ap (λ (each : Selection). picked_by each.inverts (answers each.matcher)) is ∙ facts.test in
    ap (λ held. selects_of each.tally (picked_by each.inverts (answers each.matcher)) (lines (held ++ text))) c.new.ensures.held
    ∙ selects-written args text each.tally each.inverts (answers each.matcher) (ap (λ (each : Selection). each.tally.selected) is ∙ facts.selected) test
