use Rattle.std.proofs.Common.{ℕ, refl, ap}
use Rattle.std.specs.Option.{unwrap_or}
use Rattle.sh_eval.specs.declared.flows.Flow.TheVariants as flow
use Rattle.sh_eval.specs.Shells.{with_status}
use Rattle.sh_eval.specs.Builtins.{exits}
use Rattle.sh_eval.proofs.EndingLemmas.{changed}
use Rattle.sh_eval.proofs.builtins.exit.Goals as goal

pub returns : goal.returns
returns c =
    changed (λ expansions. exits c.args.status) flow.Exit (λ shell. with_status (unwrap_or c.args.status shell.status) shell) c.args.shell.now _
    (ap (λ (it : ℕ). with_status it c.args.shell.now) c.unwrap_or-shell.ensures) (λ expansions state same. refl)
