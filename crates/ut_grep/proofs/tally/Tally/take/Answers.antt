use Rattle.std.proofs.Common.{◌+◌, ◌∙◌, ap, refl, subst, true}
use Rattle.std.specs.Result.{is_ok}
use Rattle.ps_lines.specs.Lines.{lines}
use Rattle.ut_grep.specs.Output.{AllAre, saturated}
use Rattle.ut_grep.proofs.TallyLemmas.{lines-some, on-ok, selects-passed, selects-picked, Wrote-counted, Wrote-lines, Wrote-named, Wrote-passed, Wrote-silent}
use Rattle.ut_grep.proofs.tally.Tally.take.Goals as goal

pub returns-then-not-picked-clause-wrote : goal.returns-then-not-picked-clause-wrote
returns-then-not-picked-clause-wrote c = λ test all.
    let t = c.args.self.now in
    Wrote-passed test t.report t.head.items t.number c.number_behind-self.result t.count t.selected c.args.picked (lines c.args.block.now) c.args.out.now.items c.number_behind-self.ensures
    c.if-not-picked.true (lines-some c.args.block.now c.if-is_empty.ensures) all

pub returns-then-not-picked-clause-selects : goal.returns-then-not-picked-clause-selects
returns-then-not-picked-clause-selects c = λ test all more.
    selects-passed test c.args.self.now.selected c.args.picked (lines c.args.block.now) more c.if-not-picked.true all

pub returns-in-Lines-clause-wrote : goal.returns-in-Lines-clause-wrote
returns-in-Lines-clause-wrote c = λ test all.
    let t = c.args.self.now in
    Wrote-lines test t.report t.head.items t.number c.put_block.new.number t.count t.selected (lines c.args.block.now) c.args.out.now.items c.put_block.new.out.items (is_ok c.put_block.result) c.in-Lines.is
    (rw c.deref.ensures.value at (c.put_block.ensures.wrote test (subst (λ picked. AllAre test picked (lines c.args.block.now)) c.if-not-picked.false all)))

pub returns-in-Lines-clause-selects : goal.returns-in-Lines-clause-selects
returns-in-Lines-clause-selects c = on-ok c.put_block.result _ (λ test all more.
    selects-picked test c.args.self.now.selected true c.args.picked (lines c.args.block.now) more refl c.if-not-picked.false (lines-some c.args.block.now c.if-is_empty.ensures) all)

pub returns-in-Count-clause-wrote : goal.returns-in-Count-clause-wrote
returns-in-Count-clause-wrote c = λ test all.
    let t = c.args.self.now in
    Wrote-counted test t.report t.head.items t.number t.count c.with_more-self.result t.selected c.args.picked (lines c.args.block.now) c.args.out.now.items c.in-Count.is (c.with_more-self.ensures ∙ ap (λ size. saturated (c.args.self.now.count + size)) c.line_count.ensures)
    c.if-not-picked.false all

pub returns-in-Count-clause-selects : goal.returns-in-Count-clause-selects
returns-in-Count-clause-selects c = λ test all more.
    selects-picked test c.args.self.now.selected true c.args.picked (lines c.args.block.now) more refl c.if-not-picked.false (lines-some c.args.block.now c.if-is_empty.ensures) all

pub returns-in-Path-clause-wrote : goal.returns-in-Path-clause-wrote
returns-in-Path-clause-wrote c = λ test all.
    let t = c.args.self.now in
    Wrote-named test t.report t.head.items t.number t.count t.selected c.put_first.new.selected c.args.picked (lines c.args.block.now) c.args.out.now.items c.put_first.new.out.items
    (is_ok c.put_first.result) c.in-Path.is c.put_first.ensures.selected c.if-not-picked.false (lines-some c.args.block.now c.if-is_empty.ensures) all (rw c.deref-in-Path.ensures.value at c.put_first.ensures.wrote)

pub returns-in-Path-clause-selects : goal.returns-in-Path-clause-selects
returns-in-Path-clause-selects c = on-ok c.put_first.result _ (λ test all more.
    selects-picked test c.args.self.now.selected c.put_first.new.selected c.args.picked (lines c.args.block.now) more c.put_first.ensures.selected c.if-not-picked.false (lines-some c.args.block.now c.if-is_empty.ensures) all)

pub returns-in-Nothing-clause-wrote : goal.returns-in-Nothing-clause-wrote
returns-in-Nothing-clause-wrote c = λ test all.
    let t = c.args.self.now in
    Wrote-silent test t.report t.head.items t.number t.count t.selected (lines c.args.block.now) c.args.out.now.items c.in-Nothing.is

pub returns-in-Nothing-clause-selects : goal.returns-in-Nothing-clause-selects
returns-in-Nothing-clause-selects c = λ test all more.
    selects-picked test c.args.self.now.selected true c.args.picked (lines c.args.block.now) more refl c.if-not-picked.false (lines-some c.args.block.now c.if-is_empty.ensures) all
