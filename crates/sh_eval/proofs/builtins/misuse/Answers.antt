use Rattle.std.proofs.Common.{◌∙◌}
use Rattle.sh_eval.specs.Builtins.{misused}
use Rattle.sh_eval.proofs.Growing.{adds-misused}
use Rattle.sh_eval.proofs.Steps.{wanted}
use Rattle.sh_eval.proofs.BuiltinLemmas.{misused-so}
use Rattle.sh_eval.proofs.builtins.misuse.Goals as goal

pub returns-in_default : goal.returns-in_default
returns-in_default g c = λ drawn input. wanted (λ expansions. misused c.args.flow c.args.name.now) _ (λ expansions. adds-misused c.args.flow c.args.name.now)

pub returns : goal.returns
returns g c =
    λ drawn input. misused-so c.args.flow c.args.name.now _ _ _ _ _ _ _ _ _ _ _ _ _ (c.as_slice.ensures.value ∙ c.in-Ok.ensures) c.leave.ensures.shell c.leave.ensures.how (c.tell-how.ensures.evaluates c.args.shell.now drawn input)
