use Rattle.std.proofs.Common.{◌≡◌}
use Rattle.sh_eval.specs.Inner.Staging.{members_mean}
use Rattle.sh_eval.proofs.ListSteps.{staged-wanted, staged-within}
use Rattle.sh_eval.proofs.SegmentSteps.{members-add, part-at}
use Rattle.sh_eval.proofs.segments.run_part.Goals.{else-before-eq0-via-then-before-eq0+else-behind-eq0, else-before-eq0-via-else-before-eq0}
use Rattle.sh_eval.proofs.segments.run_part.Goals as goal

pub returns-in_default : goal.returns-in_default
returns-in_default g c =
    let several : c.args.before ≡ 0 → c.args.behind ≡ 0 → ⊥ =
    elim c.else-before-eq0.branch [
      | else-before-eq0-via-then-before-eq0+else-behind-eq0 w ↦ λ first last. w.if-behind-eq0.false last
      | else-before-eq0-via-else-before-eq0 w ↦ λ first last. w.if-before-eq0.false first
    ] in
    part-at c.args.before c.args.behind c.position_of-position.result (members_mean c.args.segment.members.items) _ _ _ several c.position_of-position.ensures
    (staged-wanted (members_mean c.args.segment.members.items) c.position_of-position.result _ _ _ _ _ _ c.in_default.ensures.turns (members-add c.args.segment.members.items))

pub returns : goal.returns
returns g c =
    let several : c.args.before ≡ 0 → c.args.behind ≡ 0 → ⊥ =
    elim c.else-before-eq0.branch [
      | else-before-eq0-via-then-before-eq0+else-behind-eq0 w ↦ λ first last. w.if-behind-eq0.false last
      | else-before-eq0-via-else-before-eq0 w ↦ λ first last. w.if-before-eq0.false first
    ] in
    part-at c.args.before c.args.behind c.position_of-position.result (members_mean c.args.segment.members.items) _ _ _ several c.position_of-position.ensures
    (staged-within (members_mean c.args.segment.members.items) _ _ _ _ _ _ _ _ _ _ _ _ c.position_of-position.result c.in-Ok.aside c.in-Ok.ensures.shell c.in-Ok.ensures.session c.in-Ok.ensures.aside
    c.leave_stage.ensures.shell c.leave_stage.ensures.session c.settled.ensures c.run_segment-how.ensures)
