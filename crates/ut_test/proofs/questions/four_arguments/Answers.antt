use Rattle.std.proofs.Common.{ap, ◌∙◌}
use Rattle.ut_test.specs.Tests.{negated_by}
use Rattle.ut_test.proofs.questions.four_arguments.Goals as goal

pub returns-clause-answer : goal.returns-clause-answer
returns-clause-answer c places = c.negated_by.ensures.answer places ∙ ap (negated_by c.args.word.now) (c.three_arguments.ensures.answer places)
