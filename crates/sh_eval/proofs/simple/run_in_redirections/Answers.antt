use Rattle.std.proofs.Common.{map}
use Rattle.sh_eval.specs.Inner.Bodies.{assign_tree}
use Rattle.sh_eval.specs.Inner.Doing.{asked_of, own_means, stays_of, uses_own, way_of}
use Rattle.sh_eval.specs.Simple.{assigned_for}
use Rattle.sh_eval.proofs.OpeningLemmas.{adds-opened, finds-moved}
use Rattle.sh_eval.proofs.SimpleSteps.{by-way, done-adds, done_so}
use Rattle.sh_eval.proofs.UtilitySteps.{asked-before}
use Rattle.sh_eval.proofs.simple.run_in_redirections.Goals as goal

pub returns-in-Err : goal.returns-in-Err
returns-in-Err g c =
    c.in-Err.ensures.err (done_so (map assign_tree c.args.assigns.now) c.args.targets.now (asked_of c.args.doing))
    (λ expansions. adds-opened (way_of (asked_of c.args.doing)) (uses_own (asked_of c.args.doing)) c.args.targets.now
    (assigned_for expansions (stays_of (asked_of c.args.doing)) (map assign_tree c.args.assigns.now) (own_means (asked_of c.args.doing)))
    (done-adds (map assign_tree c.args.assigns.now) c.args.doing expansions)) _ _ _ _ _ _

pub returns-in-Err-open : goal.returns-in-Err-open
returns-in-Err-open g c =
    asked-before (done_so (map assign_tree c.args.assigns.now) c.args.targets.now (asked_of c.args.doing)) _ _ _ _ _ _ _ _ _ _ _ _ c.in-Ok.ensures.state c.in-Ok.ensures.ok
    (by-way (map assign_tree c.args.assigns.now) c.args.targets.now (asked_of c.args.doing) _ _ _ _ c.way_of-way.ensures
    (c.in-Err-open.ensures.err _ _ (uses_own (asked_of c.args.doing)) (finds-moved _ _ _ (uses_own (asked_of c.args.doing)) c.in-Ok.ensures.state c.in-Ok.ensures.found)
    (λ expansions. assigned_for expansions (stays_of (asked_of c.args.doing)) (map assign_tree c.args.assigns.now) (own_means (asked_of c.args.doing))) (done-adds (map assign_tree c.args.assigns.now) c.args.doing)))

pub returns : goal.returns
returns g c =
    asked-before (done_so (map assign_tree c.args.assigns.now) c.args.targets.now (asked_of c.args.doing)) _ _ _ _ _ _ _ _ _ _ _ _ c.in-Ok.ensures.state c.in-Ok.ensures.ok
    (by-way (map assign_tree c.args.assigns.now) c.args.targets.now (asked_of c.args.doing) _ _ _ _ c.way_of-way.ensures
    (c.in-Ok-open.ensures.ok _ _ (uses_own (asked_of c.args.doing)) (finds-moved _ _ _ (uses_own (asked_of c.args.doing)) c.in-Ok.ensures.state c.in-Ok.ensures.found)
    (λ expansions. assigned_for expansions (stays_of (asked_of c.args.doing)) (map assign_tree c.args.assigns.now) (own_means (asked_of c.args.doing))) _ _ _ c.run_doing-how.ensures c.close.ensures))
