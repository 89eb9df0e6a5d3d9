use Rattle.std.proofs.Common.{◌∙◌, sym, ap}
use Rattle.sh_parse.specs.Inner.Owed.{step}
use Rattle.sh_parse.specs.Inner.Moves.{stacked}
use Rattle.sh_parse.specs.Inner.Seeking.{owed_behind}
use Rattle.sh_parse.proofs.Checks.{popped, goes_is, skip_is, stuck_is}
use Rattle.sh_parse.proofs.Seekings.{step_goes, step_skips, step_stuck}
use Rattle.sh_parse.proofs.misuses.step.Goals as goal

pub loop-part-preserved : goal.loop-part-preserved
loop-part-preserved c =
    let l = c.loop-part in
    l.invariant ∙ ap (λ s. step s c.args.first) (popped l.stack.items c.pop.new.self.items c.in-Some.part c.in-Some.ensures.items)
    ∙ step_skips c.args.first c.in-Some.part (stacked c.pop.new.self.items)
    (skip_is c.move_at-owing.result _ c.move_at-owing.ensures c.in-Skip.is)

pub returns-in-Push : goal.returns-in-Push
returns-in-Push c =
    let l = c.loop-part in
    c.in-Ok.ensures.owed
    ∙ sym (step_goes c.args.first c.in-Some.part (stacked c.pop.new.self.items) _
    (goes_is c.move_at-owing.result _ c.in-Push.parts c.move_at-owing.ensures c.in-Push.is))
    ∙ sym (ap (λ s. owed_behind (step s c.args.first)) (popped l.stack.items c.pop.new.self.items c.in-Some.part c.in-Some.ensures.items))
    ∙ sym (ap owed_behind l.invariant)

pub returns-in-Stuck : goal.returns-in-Stuck
returns-in-Stuck c =
    let l = c.loop-part in
    ap stacked c.clear.ensures.items
    ∙ sym (step_stuck c.args.first c.in-Some.part (stacked c.pop.new.self.items)
    (stuck_is c.move_at-owing.result _ c.move_at-owing.ensures c.in-Stuck.is))
    ∙ sym (ap (λ s. owed_behind (step s c.args.first)) (popped l.stack.items c.pop.new.self.items c.in-Some.part c.in-Some.ensures.items))
    ∙ sym (ap owed_behind l.invariant)
