use Rattle.pash.specs.Meaning.{meaning}
use Rattle.pash.specs.Starts.{as_start, start_of}
use Rattle.pash.specs.Words.{command_of, texts}
use Rattle.std.proofs.Common.{refl}
use Rattle.pash.proofs.RunLemmas.{answer-of, no-read, nothing-run, run-begun, run-unbegun, without-script}
use Rattle.pash.proofs.run.run_words.Goals as goal

pub returns-in-Ok-clause-runs : goal.returns-in-Ok-clause-runs
returns-in-Ok-clause-runs g c =
    run-begun (λ reads files home. start_of reads files home (command_of (texts c.args.words.now)))
    (as_start c.in-Ok.start) _ _ _ c.in-Ok.ensures.lent _ _ _ _ _ _ _
    c.in-Ok.ensures.cause.ok c.in-Ok.ensures.start c.run_and_tell.ensures.runs

pub returns-in-Ok-clause-why : goal.returns-in-Ok-clause-why
returns-in-Ok-clause-why g c = answer-of c.in-Ok.start _ _ c.run_and_tell.ensures.ends c.in-Ok.ensures.usage

pub returns-in-Ok-clause-without : goal.returns-in-Ok-clause-without
returns-in-Ok-clause-without g c = without-script _ _ _ _ c.in-Ok.ensures.lent _ _ c.in-Ok.start _ c.run_and_tell.ensures.ends c.run_and_tell.ensures.answered

pub returns-in-Ok-clause-nothing : goal.returns-in-Ok-clause-nothing
returns-in-Ok-clause-nothing g c =
    nothing-run _ _ _ _ c.in-Ok.ensures.lent _ _ c.in-Ok.start _ _ c.in-Ok.ensures.usage c.in-Ok.ensures.start c.run_and_tell.ensures.answered

pub returns-in-Err-clause-runs : goal.returns-in-Err-clause-runs
returns-in-Err-clause-runs g c =
    run-unbegun (λ reads expansions. meaning reads expansions
    (texts c.args.words.now)) _ _ _ _ _ _ _ _ c.in-Err.stop c.in-Err.ensures.lent _ c.in-Err.is c.begin.ensures.cause

pub returns-in-Err-clause-unread : goal.returns-in-Err-clause-unread
returns-in-Err-clause-unread g c = λ unread. (refl, no-read _ _ _ _ _ _ c.in-Err.stop _ c.in-Err.is c.begin.ensures.cause _ refl)
