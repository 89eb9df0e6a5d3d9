use Rattle.std.proofs.Common.{None, ◌∙◌, sym}
use Rattle.sh_eval.specs.Contract.{drawn_of}
use Rattle.sh_eval.specs.Inner.Inputs.{called_by}
use Rattle.sh_eval.specs.Inner.Teeing.{made_of}
use Rattle.sh_eval.proofs.Steps.{goes-gone, sound-behind}
use Rattle.sh_eval.proofs.TeeingSteps.{there-kept, told-copied, told-stopped}
use Rattle.sh_eval.proofs.teeing.tell_and_copy.Goals as goal

pub copy-requires-clause-sound : goal.copy-requires-clause-sound
copy-requires-clause-sound g c κs within =
    sound-behind _ _ ((c.tell_some-how.ensures.evaluates c.args.shell.now (drawn_of None None) 0).keeps (goes-gone _ (sym c.goes_on.ensures ∙ c.if-not-goes_on.false))) c.requires.sound

pub copy-requires-clause-there : goal.copy-requires-clause-there
copy-requires-clause-there g c κs within =
    there-kept c.args.begun.now.files.items _ _ _ c.as_slice-2.ensures.value ((c.tell_some-how.ensures.evaluates c.args.shell.now (drawn_of None None) 0).keeps (goes-gone _ (sym c.goes_on.ensures ∙ c.if-not-goes_on.false))) c.requires.there

pub returns-then-not-goes_on : goal.returns-then-not-goes_on
returns-then-not-goes_on g c = told-stopped (called_by c.args.inv.now) (made_of c.args.begun.now) _ c.as_slice.ensures.value _ _ _ (sym c.goes_on.ensures ∙ c.if-not-goes_on.true) (c.tell_some-how.ensures.evaluates _ _ _)

pub returns : goal.returns
returns g c =
    told-copied (called_by c.args.inv.now) (made_of c.args.begun.now) _ c.as_slice.ensures.value _ _ _ _ _ _ c.as_slice-2.ensures.value (sym c.goes_on.ensures ∙ c.if-not-goes_on.false) (c.tell_some-how.ensures.evaluates _ _ _) c.copy.ensures
