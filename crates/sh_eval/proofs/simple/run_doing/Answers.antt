use Rattle.std.proofs.Common.{◌∙◌, sym, ap, arith, map, refl}
use Rattle.std.proofs.lemmas.List.{nil_from_length}
use Rattle.sh_eval.specs.Inner.Bodies.{assign_tree}
use Rattle.sh_eval.specs.Inner.Doing.{asked_of, own_means, stays_of}
use Rattle.sh_eval.specs.Simple.{assigned_for}
use Rattle.sh_eval.proofs.CommandSteps.{wanted-behind}
use Rattle.sh_eval.proofs.Growing.{adds-assigned_for}
use Rattle.sh_eval.proofs.SimpleSteps.{bare-assigns, doing-adds, stays, undone-behind}
use Rattle.sh_eval.proofs.Steps.{wanted}
use Rattle.sh_eval.proofs.simple.run_doing.Goals as goal

pub returns-then-stays : goal.returns-then-stays
returns-then-stays g c = stays _ (map assign_tree c.args.assigns.now) _ _ _ _ (sym c.stays.ensures ∙ c.if-stays.true) c.run_assigned.ensures

pub returns-in_default-copy : goal.returns-in_default-copy
returns-in_default-copy g c =
    wanted (λ expansions. assigned_for expansions (stays_of (asked_of c.args.doing)) (map assign_tree c.args.assigns.now) (own_means (asked_of c.args.doing))) _
    (λ expansions. adds-assigned_for expansions (stays_of (asked_of c.args.doing)) (map assign_tree c.args.assigns.now) (own_means (asked_of c.args.doing)) (doing-adds c.args.doing))

pub returns-in_default-restore : goal.returns-in_default-restore
returns-in_default-restore g c =
    wanted-behind (λ expansions. assigned_for expansions (stays_of (asked_of c.args.doing)) (map assign_tree c.args.assigns.now) (own_means (asked_of c.args.doing))) _ _ _ _ _ _ _ _
    (undone-behind _ (map assign_tree c.args.assigns.now) _ _ _ _ _ _ _ _ _ _ _ _ _ _ (sym c.stays.ensures ∙ c.if-stays.false) c.in-Ok.ensures refl c.run_assigned-how.ensures)

pub returns : goal.returns
returns g c = undone-behind _ (map assign_tree c.args.assigns.now) _ _ _ _ _ _ _ _ _ _ _ _ _ _ (sym c.stays.ensures ∙ c.if-stays.false) c.in-Ok.ensures c.in-Ok-restore.ensures c.run_assigned-how.ensures

pub returns-in-empty : goal.returns-in-empty
returns-in-empty g c = bare-assigns _ (map assign_tree c.args.assigns.now) _ _ _ _ (ap (map assign_tree) (nil_from_length c.args.assigns.now (let below = c.in-empty.len_below in omega (arith, below)))) c.run_assigned-in-empty.ensures
