use Rattle.pash.specs.Meaning.{run_of}
use Rattle.pash.specs.Starts.{as_start}
use Rattle.pash.proofs.RunLemmas.{run-told, run-untold}
use Rattle.pash.proofs.run.run_and_tell.Goals as goal

pub returns-in-Ok-clause-runs : goal.returns-in-Ok-clause-runs
returns-in-Ok-clause-runs g c =
    run-told (λ reads. run_of
    (as_start c.args.start)) _ c.in-Ok.outcome _ _ _ _ _ _ c.tell-outcome.ensures.out _ _ _ _ _ _ _ _ c.in-Ok.is c.run_start-outcome.ensures.runs
    c.tell-outcome.ensures.outcome c.tell-outcome.ensures.ok c.tell-outcome.ensures.part c.tell-outcome.ensures.cause

pub returns-in-Err-clause-runs : goal.returns-in-Err-clause-runs
returns-in-Err-clause-runs g c = run-untold (λ reads. run_of (as_start c.args.start)) _ _ _ _ c.in-Err.is c.run_start-outcome.ensures.runs
