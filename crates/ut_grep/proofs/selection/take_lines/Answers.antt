use Rattle.std.proofs.Common.{◌∙◌, ◌++◌, sym, true}
use Rattle.std.specs.Result.{is_ok}
use Rattle.ps_lines.specs.Lines.{lines}
use Rattle.ut_streams.proofs.StreamLemmas.{OnOk-then, Wrote-trans}
use Rattle.ut_regex.specs.Answers.{answers}
use Rattle.ut_regex.proofs.AnswerLemmas.{none-any}
use Rattle.ut_grep.specs.Output.{picked_by}
use Rattle.ut_grep.specs.Tallies.{due_of, selects_of}
use Rattle.ut_grep.proofs.SelectionLemmas.{found-picked, lacking-same, selects-found, selects-tested, Wrote-found, Wrote-found_stopped, Wrote-tested}
use Rattle.ut_grep.proofs.selection.take_lines.Goals as goal

pub returns-in_default-clause-wrote : goal.returns-in_default-clause-wrote
returns-in_default-clause-wrote c =
    let l = c.loop-left in
    let had = answers c.args.matcher.now in
    let test = picked_by c.args.inverts had in
    Wrote-tested (λ more. due_of c.args.tally.now test (lines c.args.text.now ++ more)) c.take.new.self c.args.inverts had (answers c.first_having.new.self)
    c.args.out.now.items c.take.new.out.items (is_ok c.take.result) (λ line. c.in_default.ensures.same line ∙ l.invariant.same line)
    (Wrote-trans (λ more. due_of c.args.tally.now test (lines c.args.text.now ++ more)) (λ more. due_of l.tally test (lines l.left.now ++ more)) (due_of c.take.new.self test)
    c.args.out.now.items l.out.items c.take.new.out.items (is_ok c.take.result) l.invariant.wrote
    (c.take.ensures.wrote test (lacking-same c.args.inverts had (answers l.matcher) (lines l.left.now) l.invariant.same c.in_default.ensures.no_line)))

pub returns-in_default-clause-selects : goal.returns-in_default-clause-selects
returns-in_default-clause-selects c =
    let l = c.loop-left in
    let had = answers c.args.matcher.now in
    let test = picked_by c.args.inverts had in
    OnOk-then c.take.result _ _ (λ each more.
    selects-tested c.take.new.self c.args.inverts had (answers c.first_having.new.self) (λ line. c.in_default.ensures.same line ∙ l.invariant.same line) more
    ∙ each test (lacking-same c.args.inverts had (answers l.matcher) (lines l.left.now) l.invariant.same c.in_default.ensures.no_line) more
    ∙ l.invariant.selects more) c.take.ensures.selects

pub returns-in-Err-clause-wrote : goal.returns-in-Err-clause-wrote
returns-in-Err-clause-wrote c =
    let l = c.loop-left in
    let had = answers c.args.matcher.now in
    let test = picked_by c.args.inverts had in
    let first = c.in-Some.ensures.first in
    Wrote-found_stopped l.left.now c.in-Some.cut.before.now c.in-Some.cut.line.now c.in-Some.cut.rest.now first.cut
    (λ more. due_of c.args.tally.now test (lines c.args.text.now ++ more)) (due_of c.take_found.new.tally (picked_by c.args.inverts (answers c.first_having.new.self)))
    (due_of l.tally test) (due_of c.take_found.new.tally test)
    c.args.out.now.items l.out.items c.take_found.new.out.items l.invariant.wrote
    (c.in-Err.ensures.wrote test
    (lacking-same c.args.inverts had (answers l.matcher) (lines c.in-Some.cut.before.now) l.invariant.same
    (none-any (answers l.matcher) (lines c.in-Some.cut.before.now) first.passed))
    (found-picked c.args.inverts had c.in-Some.cut.line.now (sym (l.invariant.same c.in-Some.cut.line.now) ∙ first.has)))

pub loop-left-preserved : goal.loop-left-preserved
loop-left-preserved c =
    let l = c.loop-left in
    let had = answers c.args.matcher.now in
    let test = picked_by c.args.inverts had in
    let first = c.in-Some.ensures.first in
    let lacking = lacking-same c.args.inverts had (answers l.matcher) (lines c.in-Some.cut.before.now) l.invariant.same
    (none-any (answers l.matcher) (lines c.in-Some.cut.before.now) first.passed) in
    let found = found-picked c.args.inverts had c.in-Some.cut.line.now (sym (l.invariant.same c.in-Some.cut.line.now) ∙ first.has) in
    record {
      closed = c.in-Some.ensures.rest;
      same = λ line. c.in-Some.ensures.same line ∙ l.invariant.same line;
      wrote =
          Wrote-found l.left.now c.in-Some.cut.before.now c.in-Some.cut.line.now c.in-Some.cut.rest.now first.cut
          (λ more. due_of c.args.tally.now test (lines c.args.text.now ++ more)) (due_of l.tally test) (due_of c.take_found.new.tally test)
          c.args.out.now.items l.out.items c.take_found.new.out.items true l.invariant.wrote (c.in-Ok.ensures.wrote test lacking found);
      selects = λ more.
          selects-found l.left.now c.in-Some.cut.before.now c.in-Some.cut.line.now c.in-Some.cut.rest.now first.cut
          (selects_of l.tally test) (selects_of c.take_found.new.tally test) (c.in-Ok.ensures.selects test lacking found) more ∙ l.invariant.selects more;
    }
