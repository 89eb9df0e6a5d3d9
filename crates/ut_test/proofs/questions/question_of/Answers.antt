use Rattle.std.proofs.Common.{ap, sym, ◌∙◌}
use Rattle.ut_test.specs.Tests.{tested_by}
use Rattle.ut_test.proofs.QuestionLemmas.{four_texts}
use Rattle.ut_test.proofs.questions.question_of.Goals as goal

pub returns-in-len4-clause-answer : goal.returns-in-len4-clause-answer
returns-in-len4-clause-answer c places =
    c.four_arguments.ensures.answer places
    ∙ sym (ap (tested_by places) (four_texts c.args.args.now
    c.word-item-then-args-lt5.result c.left-item-then-args-lt5.result c.operator-item-then-args-lt5.result c.right-item-then-args-lt5.result
    c.as_slice-in-len4.result.now c.as_slice-in-len4-2.result.now c.as_slice-in-len4-3.result.now c.as_slice-in-len4-4.result.now
    c.in-len4.len_at_least c.in-len4.len_below
    c.word-item-then-args-lt5.is c.left-item-then-args-lt5.is c.operator-item-then-args-lt5.is c.right-item-then-args-lt5.is
    c.as_slice-in-len4.ensures.value c.as_slice-in-len4-2.ensures.value c.as_slice-in-len4-3.ensures.value c.as_slice-in-len4-4.ensures.value))
