use Rattle.std.proofs.lemmas.Bool.{false≢true}
use Rattle.std.proofs.Common.{false}
use Rattle.ut_regex.proofs.LiteralLemmas.{lacking_literal}
use Rattle.ut_regex.specs.Answers.{answers}
use Rattle.ut_regex.specs.Spans.{Has}
use Rattle.ut_regex.proofs.AnswerLemmas.{answers-has, by_finder, same_answer}
use Rattle.ut_regex.proofs.finder.Matcher.has.Goals as goal

pub returns-then-lacks-clause-has : goal.returns-then-lacks-clause-has
returns-then-lacks-clause-has c = λ fold whole re finds. (
  λ h. absurd (false≢true h),
  λ has. absurd (lacking_literal fold whole re c.args.line.now c.args.self.now.literal finds.literal (c.lacks.ensures c.if-lacks.true) has),
)

pub returns-then-lacks-clause-answer : goal.returns-then-lacks-clause-answer
returns-then-lacks-clause-answer c =
    by_finder c.args.self.now false (answers c.args.self.now c.args.line.now) (λ fold whole re finds.
    same_answer false (answers c.args.self.now c.args.line.now) (Has fold whole c.args.line.now re) (returns-then-lacks-clause-has c fold whole re finds)
    (answers-has c.args.self.now fold whole re c.args.line.now finds.seeks))

pub returns-clause-answer : goal.returns-clause-answer
returns-clause-answer c =
    by_finder c.args.self.now c.runs_over.result (answers c.args.self.now c.args.line.now) (λ fold whole re finds.
    same_answer c.runs_over.result (answers c.args.self.now c.args.line.now) (Has fold whole c.args.line.now re) (c.runs_over.ensures.has fold whole re finds)
    (answers-has c.args.self.now fold whole re c.args.line.now finds.seeks))
