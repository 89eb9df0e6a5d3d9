use Rattle.std.proofs.Common.{[], true, refl, ◌∙◌}
use Rattle.ut_args.specs.Invocations.{command_of}
use Rattle.sh_eval.specs.Inner.Inputs.{called_by, runs_behind}
use Rattle.sh_eval.specs.Table.{pages}
use Rattle.sh_eval.specs.Utilities.{needs_all, takes_inputs}
use Rattle.sh_eval.proofs.UtilitySteps.{asked-before, behind-adds, behind-runs, behind-skips, needed-again}
use Rattle.sh_eval.proofs.utilities.run_told.Goals as goal

pub take_inputs-requires-clause-needed : goal.take_inputs-requires-clause-needed
take_inputs-requires-clause-needed g c κs within =
    needed-again (needs_all (command_of c.args.inv.now)) c.args.lines.now c.args.found.items _ (c.requires.needed c.if-skips.false) (c.requires.untold c.if-skips.false)
    (λ none. c.as_slice.ensures.value ∙ c.in-Ok.ensures.same none)

pub returns-then-skips : goal.returns-then-skips
returns-then-skips g c = λ name. behind-skips name c.args.inv.now [] c.args.skips _ _ _ _ _ _ _ c.if-skips.true c.lacking_status-shell.ensures refl

pub returns-in-Ok : goal.returns-in-Ok
returns-in-Ok g c = λ name.
    behind-runs name c.args.inv.now [] c.args.skips _ _ _ c.if-skips.false
    (asked-before (λ expansions. takes_inputs pages name (called_by c.args.inv.now)) _ _ _ _ _ _ _ _ _ _ _ _ c.in-Ok.ensures.state c.in-Ok.ensures.ok (c.take_inputs.ensures name))

pub returns-in-Err : goal.returns-in-Err
returns-in-Err g c = λ name. c.in-Err.ensures.err (λ expansions. runs_behind c.args.skips name c.args.inv.now) (behind-adds name c.args.inv.now [] c.args.skips) _ _ _ _ _ _
