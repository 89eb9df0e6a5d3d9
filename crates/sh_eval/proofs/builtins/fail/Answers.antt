use Rattle.std.proofs.Common.{refl}
use Rattle.sh_eval.specs.declared.flows.Flow.TheVariants as flow
use Rattle.sh_eval.specs.Shells.{with_status}
use Rattle.sh_eval.specs.Builtins.{fails}
use Rattle.sh_eval.proofs.EndingLemmas.{changed}
use Rattle.sh_eval.proofs.builtins.fail.Goals as goal

pub returns : goal.returns
returns c = changed (λ expansions. fails) flow.On (with_status 1) c.args.shell.now _ refl (λ expansions state same. refl)
