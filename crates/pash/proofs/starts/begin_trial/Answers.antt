use Rattle.pash.specs.Starts.{setup_of, text_of, trial_script}
use Rattle.pash.specs.Words.{as_run}
use Rattle.pash.proofs.StartLemmas.{started-over}
use Rattle.pash.proofs.starts.begin_trial.Goals as goal

pub returns-in-Ok-clause-start : goal.returns-in-Ok-clause-start
returns-in-Ok-clause-start c =
    started-over (text_of c.args.sample) trial_script (setup_of (as_run c.args.command.now)) c.in-Ok.start _ c.over_sample.ensures.start c.in-Ok.ensures.start
