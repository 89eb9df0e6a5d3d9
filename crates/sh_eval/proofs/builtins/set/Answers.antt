use Rattle.std.proofs.Common.{ℕ, List, refl, ap}
use Rattle.sh_eval.specs.declared.flows.Flow.TheVariants as flow
use Rattle.sh_eval.specs.Shells.{with_status}
use Rattle.sh_eval.specs.Builtins.{sets}
use Rattle.sh_eval.proofs.EndingLemmas.{changed}
use Rattle.sh_eval.proofs.builtins.set.Goals as goal

pub returns : goal.returns
returns c =
    changed (λ expansions. sets c.args.arguments.now) flow.On (λ shell. with_status 0 (record shell { arguments = c.args.arguments.now })) c.args.shell.now _
    (ap (λ (it : List (List ℕ)). with_status 0 (record c.args.shell.now { arguments = it })) c.in-Ok.ensures) (λ expansions state same. refl)
