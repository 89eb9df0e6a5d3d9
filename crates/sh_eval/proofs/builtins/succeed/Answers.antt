use Rattle.std.proofs.Common.{refl}
use Rattle.sh_eval.specs.declared.flows.Flow.TheVariants as flow
use Rattle.sh_eval.specs.Shells.{with_status}
use Rattle.sh_eval.specs.Builtins.{succeeds}
use Rattle.sh_eval.proofs.EndingLemmas.{changed}
use Rattle.sh_eval.proofs.builtins.succeed.Goals as goal

pub returns : goal.returns
returns c = changed (λ expansions. succeeds) flow.On (with_status 0) c.args.shell.now _ refl (λ expansions state same. refl)
