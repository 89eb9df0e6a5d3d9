use Rattle.std.proofs.Common.{refl}
use Rattle.sh_eval.specs.declared.flows.Flow.TheVariants as flow
use Rattle.sh_eval.specs.Shells.{with_status}
use Rattle.sh_eval.specs.Inner.Doing.{asked_of, own_means}
use Rattle.sh_eval.proofs.SimpleSteps.{doing-adds, misuse-runs, runs-own}
use Rattle.sh_eval.proofs.Steps.{changed}
use Rattle.sh_eval.proofs.simple.run_assigned.Goals as goal

pub returns-in-Err : goal.returns-in-Err
returns-in-Err g c = c.in-Err.ensures.err _ _ (λ expansions given. own_means (asked_of c.args.doing)) (λ expansions given. doing-adds c.args.doing)

pub returns-in-Nothing : goal.returns-in-Nothing
returns-in-Nothing g c =
    c.in-Ok.ensures.ok _ _ (λ expansions given. own_means (asked_of c.args.doing)) _ _
    (runs-own c.args.doing _ _ _ c.requires.own (rw c.in-Nothing.is (changed flow.On (λ shell. with_status shell.substitution_status shell) _ _ _ _ _ _ refl)))

pub returns-in-Builtin : goal.returns-in-Builtin
returns-in-Builtin g c = c.in-Ok.ensures.ok _ _ (λ expansions given. own_means (asked_of c.args.doing)) _ _ (runs-own c.args.doing _ _ _ c.requires.own (rw c.in-Builtin.is (c.run_builtin.ensures _)))

pub returns-in-Misuse : goal.returns-in-Misuse
returns-in-Misuse g c =
    c.in-Ok.ensures.ok _ _ (λ expansions given. own_means (asked_of c.args.doing)) _ _
    (runs-own c.args.doing _ _ _ c.requires.own (rw c.in-Misuse.is (misuse-runs _ _ _ _ _ c.flow_at_fault-flow.ensures (c.misuse-how.ensures _ _))))

pub returns-in-WrongPatterns : goal.returns-in-WrongPatterns
returns-in-WrongPatterns g c =
    c.in-Ok.ensures.ok _ _ (λ expansions given. own_means (asked_of c.args.doing)) _ _
    (runs-own c.args.doing _ _ _ c.requires.own (rw c.in-WrongPatterns.is (c.misuse-how-in-WrongPatterns.ensures _ _)))

pub returns-in-Tee : goal.returns-in-Tee
returns-in-Tee g c =
    c.in-Ok.ensures.ok _ _ (λ expansions given. own_means (asked_of c.args.doing)) _ _ (runs-own c.args.doing _ _ _ c.requires.own (rw c.in-Tee.is c.run_tee.ensures))

pub returns-in-Utility : goal.returns-in-Utility
returns-in-Utility g c =
    c.in-Ok.ensures.ok _ _ (λ expansions given. own_means (asked_of c.args.doing)) _ _ (runs-own c.args.doing _ _ _ c.requires.own (rw c.in-Utility.is c.run_utility.ensures))
