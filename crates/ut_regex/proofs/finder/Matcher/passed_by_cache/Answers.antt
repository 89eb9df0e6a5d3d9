use Rattle.std.proofs.Common.{Some}
use Rattle.ps_lines.specs.Lines.{lines}
use Rattle.ut_regex.proofs.AnswerLemmas.{lack-unanswered, made-same}
use Rattle.ut_regex.proofs.FilledLemmas.{quiet-lines, serves-held}
use Rattle.ut_regex.proofs.finder.Matcher.passed_by_cache.Goals as goal

pub returns-in-Some-clause-passed : goal.returns-in-Some-clause-passed
returns-in-Some-clause-passed c = λ fold whole re finds before more cut closed low.
    let machine = c.args.self.now.machine in
    lack-unanswered c.args.self.now fold whole re finds.seeks (lines before)
    (quiet-lines machine.steps.items machine.fold machine.whole c.args.text.now before more c.passed.result cut closed low c.passed.ensures.quiet)

pub invariant_of-self : goal.invariant_of-self
invariant_of-self c = record {
  serves = serves-held c.passed.new.machine (Some c.passed.new.self) c.passed.ensures.serves;
  made = made-same c.args.self.now.machine c.passed.new.machine c.args.self.now.table c.args.self.now.literal c.passed.ensures.same c.args.self.now.made;
}
