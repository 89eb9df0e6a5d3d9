use Rattle.std.proofs.Common.{rules, refl}
use Rattle.sh_eval.specs.declared.flows.Flow.TheVariants as flow
use Rattle.sh_eval.specs.Shells.{with_status}
use Rattle.sh_eval.specs.Builtins.{unsets, unset_all}
use Rattle.sh_eval.proofs.EndingLemmas.{changed}
use Rattle.sh_eval.proofs.builtins.unset.Goals as goal

pub returns : goal.returns
returns c =
    changed (λ expansions. unsets c.args.names.now) flow.On (λ shell. with_status 0 (record shell { variables = unset_all c.args.names.now shell.variables })) c.args.shell.now _
    (search rules) (λ expansions state same. refl)
