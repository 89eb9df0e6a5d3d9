use Rattle.sh_tree.specs.Views.{script_tree}
use Rattle.pash.specs.Starts.{text_of}
use Rattle.pash.proofs.RunLemmas.{run-over, run-wanted}
use Rattle.pash.proofs.run.run_trial.Goals as goal

pub returns-in-Ok-clause-runs : goal.returns-in-Ok-clause-runs
returns-in-Ok-clause-runs g c =
    λ left faults. run-over _ _ (script_tree c.args.script.now) c.args.setup c.in-Ok.text.items (text_of c.args.sample) c.in-Ok.ensures.text _ (c.run_over.ensures.runs left faults)

pub returns-in-Err-clause-runs : goal.returns-in-Err-clause-runs
returns-in-Err-clause-runs g c = λ left faults. run-wanted _ _
