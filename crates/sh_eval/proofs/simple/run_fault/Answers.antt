use Rattle.std.proofs.Common.{map, refl, subst, sym}
use Rattle.sh_eval.specs.declared.refusals.Refusal.TheVariants as refusal
use Rattle.sh_eval.specs.Asking.{asked_as}
use Rattle.sh_eval.specs.Inner.Bodies.{assign_tree}
use Rattle.sh_eval.specs.Simple.{checked}
use Rattle.sh_eval.specs.Table.{pages}
use Rattle.sh_eval.proofs.Growing.{adds-checked, asked_as-adds}
use Rattle.sh_eval.proofs.SimpleSteps.{asked-so, is-told, misuse-checked, refused-so}
use Rattle.sh_eval.proofs.Steps.{wanted}
use Rattle.sh_eval.proofs.simple.run_fault.Goals as goal

pub returns-in-UnknownCommand : goal.returns-in-UnknownCommand
returns-in-UnknownCommand g c = λ name words asked is. asked-so (map assign_tree c.args.assigns.now) c.args.targets.now name words c.args.fault asked (subst is-told (sym c.in-UnknownCommand.is) tt) is _ _ _
    (rw c.in-UnknownCommand.is (refused-so (refusal.UnknownCommand c.in-UnknownCommand.name) _ _ _ _ _ _ (λ expansions state. refl)))

pub returns-in-UnsupportedFlag : goal.returns-in-UnsupportedFlag
returns-in-UnsupportedFlag g c = λ name words asked is. asked-so (map assign_tree c.args.assigns.now) c.args.targets.now name words c.args.fault asked (subst is-told (sym c.in-UnsupportedFlag.is) tt) is _ _ _
    (rw c.in-UnsupportedFlag.is (refused-so (refusal.UnsupportedFlag c.in-UnsupportedFlag.name c.in-UnsupportedFlag.letter) _ _ _ _ _ _ (λ expansions state. refl)))

pub returns-in-BadUsage : goal.returns-in-BadUsage
returns-in-BadUsage g c = λ name words asked is. asked-so (map assign_tree c.args.assigns.now) c.args.targets.now name words c.args.fault asked (subst is-told (sym c.in-BadUsage.is) tt) is _ _ _
    (rw c.in-BadUsage.is (misuse-checked (map assign_tree c.args.assigns.now) c.args.targets.now c.in-BadUsage.name _ _ _ _ c.as_slice.ensures c.run_in_redirections.ensures))

pub returns-in-Memory : goal.returns-in-Memory
returns-in-Memory g c = λ name words asked is. wanted (λ expansions. checked expansions pages (map assign_tree c.args.assigns.now) c.args.targets.now (asked_as name words asked)) _ (λ expansions. adds-checked expansions pages (map assign_tree c.args.assigns.now) c.args.targets.now (asked_as name words asked) (asked_as-adds name words asked))
