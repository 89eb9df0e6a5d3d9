use Rattle.std.proofs.Common.{◌≡◌, Result, IfOk, ◌∙◌, subst}
use Rattle.sh_eval.specs.Expanding.{ends_told}
use Rattle.sh_eval.proofs.Growing.{adds-ends_told}
use Rattle.sh_eval.proofs.ExpandingSteps.{told-so}
use Rattle.sh_eval.proofs.Steps.{wanted}
use Rattle.sh_eval.proofs.expanding.end_told.Goals as goal

pub returns-in_default : goal.returns-in_default
returns-in_default g c = λ text is drawn input. wanted (λ expansions. ends_told text) _ (λ expansions. adds-ends_told text)

pub returns : goal.returns
returns g c = λ text is drawn input. told-so text _ _ _ _ _ _ _ _ _ _ _ _ _ (c.as_slice.ensures.value ∙ subst (λ (it : Result _ _). IfOk it (λ line. line.items ≡ text)) c.in-Ok.is is) c.leave.ensures.shell c.leave.ensures.how (c.tell-how.ensures.evaluates c.args.shell.now drawn input)
