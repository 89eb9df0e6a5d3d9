use Rattle.std.proofs.Common.{rules}
use Rattle.sh_eval.specs.Builtins.{echoes}
use Rattle.sh_eval.proofs.Steps.{wanted}
use Rattle.sh_eval.proofs.BuiltinLemmas.{echoed-so, adds-echoes}
use Rattle.sh_eval.proofs.builtins.run_echo.Goals as goal

pub returns-in_default : goal.returns-in_default
returns-in_default g c = λ drawn input. wanted (λ expansions. echoes c.args.operands.now) _ (adds-echoes c.args.operands.now)

pub returns : goal.returns
returns g c =
    λ drawn input. echoed-so c.args.operands.now _ _ _ _ _ _ _ _ _ _ _ _ _ (search rules) c.leave.ensures.shell c.leave.ensures.how (c.put-how.ensures.evaluates c.args.shell.now drawn input)
