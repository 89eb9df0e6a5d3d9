use Rattle.std.proofs.Common.{[]}
use Rattle.fl_commands.specs.Runs.{command_asks}
use Rattle.sh_eval.proofs.RunSteps.{ran-with}
use Rattle.sh_eval.proofs.UtilitySteps.{tee-begun, tee-built, tee-named, tee-stands, tee-writes}
use Rattle.sh_eval.proofs.utilities.run_copy.Goals as goal

pub run_command-ended-requires-clause-built : goal.run_command-ended-requires-clause-built
run_command-ended-requires-clause-built g c κs within = tee-built c.args.inv.now c.requires.ready.tee

pub run_command-ended-requires-clause-named : goal.run_command-ended-requires-clause-named
run_command-ended-requires-clause-named g c κs within = tee-named c.args.inv.now c.requires.ready.tee

pub run_command-ended-requires-clause-tees : goal.run_command-ended-requires-clause-tees
run_command-ended-requires-clause-tees g c κs within = tee-writes c.args.inv.now c.args.files.now c.requires.ready.tee

pub run_command-ended-requires-clause-stand : goal.run_command-ended-requires-clause-stand
run_command-ended-requires-clause-stand g c κs within = tee-stands (g.T.Tree.state c.args.tree.now).held

pub run_command-ended-requires-clause-begun : goal.run_command-ended-requires-clause-begun
run_command-ended-requires-clause-begun g c κs within = tee-begun (g.T.Tree.state c.args.tree.now).held c.args.files.now c.requires.ready.there

pub returns : goal.returns
returns g c = ran-with (command_asks c.args.inv.now [] c.args.files.now c.args.from.now) c.args.status _ _ _ _ _ _ _ _ _ _ _ _ c.end_with.ensures c.run_command-ended.ensures
