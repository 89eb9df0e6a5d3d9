use Rattle.std.proofs.Common.{refl}
use Rattle.pash.proofs.GraphLemmas.{run-of-graph}
use Rattle.pash.proofs.RunLemmas.{run-of-trial, run-script, run-written}
use Rattle.pash.proofs.run.run_start.Goals as goal

pub returns-in-Script-clause-runs : goal.returns-in-Script-clause-runs
returns-in-Script-clause-runs g c =
    run-script _ _ _ _ c.run_script-how.new.shell c.status.ensures c.args.start c.in-Script.script c.in-Script.setup c.in-Script.is refl _ _ c.came_of.ensures
    c.run_script-how.ensures.meaning c.run_script-how.ensures.kept c.run_script-how.ensures.whole c.run_script-how.ensures.cause c.run_script-how.ensures.lent

pub returns-in-Graph-clause-runs : goal.returns-in-Graph-clause-runs
returns-in-Graph-clause-runs g c =
    run-of-graph _ _ c.args.start c.in-Graph.graph c.in-Graph.is _ (c.run_graph-ran.ensures.runs _ _)

pub returns-in-Text-clause-runs : goal.returns-in-Text-clause-runs
returns-in-Text-clause-runs g c =
    run-written _ _ _ _ _ _ _ _ _ _ _ c.args.start c.in-Text.sample c.in-Text.is refl _ c.requires.whole c.write_sample-outcome.ensures.outcome
    c.write_sample-outcome.ensures.ok c.write_sample-outcome.ensures.part c.write_sample-outcome.ensures.cause

pub returns-in-Trial-clause-runs : goal.returns-in-Trial-clause-runs
returns-in-Trial-clause-runs g c =
    run-of-trial _ _ c.args.start c.in-Trial.script c.in-Trial.setup c.in-Trial.sample c.in-Trial.is _ (c.run_trial-outcome.ensures.runs _ _)
