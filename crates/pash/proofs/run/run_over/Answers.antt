use Rattle.std.proofs.Common.{refl}
use Rattle.sh_tree.specs.Views.{script_tree}
use Rattle.pash.proofs.RunLemmas.{never-read, run-tried}
use Rattle.pash.proofs.run.run_over.Goals as goal

pub returns-clause-runs : goal.returns-clause-runs
returns-clause-runs g c =
    run-tried _ _ _ _ _ _ _ _ _ _ _ _ _ _ _ _ c.run_script-how.new.shell c.status.ensures (script_tree c.args.script.now) c.args.setup c.args.text.items _ _
    c.new-source.ensures.left refl _ _ c.came_of-outcome.ensures c.run_script-how.ensures.meaning c.run_script-how.ensures.kept c.run_script-how.ensures.whole
    c.run_script-how.ensures.cause c.run_script-how.ensures.lent

pub returns-clause-input : goal.returns-clause-input
returns-clause-input g c = never-read _ _ _ _ _ _ _ _ _ c.came_of-outcome.ensures c.run_script-how.ensures.cause
