use Rattle.sh_eval.proofs.builtins.answer.Goals as goal

pub returns-in-Yes : goal.returns-in-Yes
returns-in-Yes g c = λ drawn input. rw c.in-Yes.is (c.succeed.ensures _ _ _ _)

pub returns-in-No : goal.returns-in-No
returns-in-No g c = λ drawn input. rw c.in-No.is (c.fail.ensures _ _ _ _)

pub returns-in-BadUsage : goal.returns-in-BadUsage
returns-in-BadUsage g c = λ drawn input. rw c.in-BadUsage.is (c.misuse.ensures drawn input)
