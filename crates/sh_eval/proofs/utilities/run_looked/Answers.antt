use Rattle.std.proofs.Common.{None, ap, ◌∙◌, sym}
use Rattle.sh_eval.specs.Contract.{drawn_of}
use Rattle.sh_eval.specs.Inner.Inputs.{called_by, lines_by}
use Rattle.sh_eval.specs.Table.{pages}
use Rattle.sh_eval.specs.Utilities.{runs_utility}
use Rattle.sh_eval.proofs.Growing.{adds-runs_utility}
use Rattle.sh_eval.proofs.Steps.{goes-gone, sound-behind, wanted}
use Rattle.sh_eval.proofs.UtilitySteps.{skips-so, untold, utility-followed, utility-stopped}
use Rattle.sh_eval.proofs.utilities.run_looked.Goals as goal

pub run_told-requires-clause-sound : goal.run_told-requires-clause-sound
run_told-requires-clause-sound g c κs within =
    sound-behind _ _ ((c.tell_some-how.ensures.evaluates c.args.shell.now (drawn_of None None) 0).keeps (goes-gone _ (sym c.goes_on.ensures ∙ c.if-not-goes_on.false))) c.requires.sound

pub run_told-requires-clause-needed : goal.run_told-requires-clause-needed
run_told-requires-clause-needed g c κs within = λ goes_on. sym (skips-so c.args.inv.now _ _ c.args.found.items c.as_slice-2.ensures.value c.skips-skips.ensures) ∙ goes_on

pub run_told-requires-clause-untold : goal.run_told-requires-clause-untold
run_told-requires-clause-untold g c κs within = λ goes_on needs.
    c.as_slice-4.ensures.value ∙ c.in-Ok.ensures ∙ ap (lines_by c.args.name.now c.args.inv.now) c.as_slice.ensures.value
    ∙ untold c.args.name.now c.args.inv.now c.args.found.items (sym (skips-so c.args.inv.now _ _ c.args.found.items c.as_slice-2.ensures.value c.skips-skips.ensures) ∙ goes_on) needs

pub returns-in_default : goal.returns-in_default
returns-in_default g c =
    wanted (λ expansions. runs_utility pages c.args.name.now (called_by c.args.inv.now)) _ (λ expansions. adds-runs_utility pages c.args.name.now (called_by c.args.inv.now))

pub returns-then-not-goes_on : goal.returns-then-not-goes_on
returns-then-not-goes_on g c =
    utility-stopped c.args.name.now c.args.inv.now _ _ c.args.found.items _ c.requires.looked.named
    (c.as_slice-3.ensures.value ∙ c.in-Ok.ensures ∙ ap (lines_by c.args.name.now c.args.inv.now) c.as_slice.ensures.value) (skips-so c.args.inv.now _ _ c.args.found.items c.as_slice-2.ensures.value c.skips-skips.ensures) _ _
    (sym c.goes_on.ensures ∙ c.if-not-goes_on.true) (c.tell_some-how.ensures.evaluates _ _ _)

pub returns : goal.returns
returns g c =
    utility-followed c.args.name.now c.args.inv.now _ _ c.args.found.items _ c.requires.looked.named
    (c.as_slice-3.ensures.value ∙ c.in-Ok.ensures ∙ ap (lines_by c.args.name.now c.args.inv.now) c.as_slice.ensures.value) (skips-so c.args.inv.now _ _ c.args.found.items c.as_slice-2.ensures.value c.skips-skips.ensures) _ _ _ _
    (sym c.goes_on.ensures ∙ c.if-not-goes_on.false) (c.tell_some-how.ensures.evaluates _ _ _) (c.run_told.ensures c.args.name.now)
