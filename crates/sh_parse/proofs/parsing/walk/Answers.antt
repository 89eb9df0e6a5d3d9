use Rattle.std.proofs.Common.{◌∙◌, ap}
use Rattle.sh_parse.specs.Inner.Building.{walked, acted}
use Rattle.sh_parse.specs.Inner.Built.{state_of}
use Rattle.sh_parse.specs.Inner.Moves.{stacked}
use Rattle.sh_parse.proofs.Checks.{popped, goes_is, halts_is}
use Rattle.sh_parse.proofs.Walks.{goes_on, left_over}
use Rattle.sh_parse.proofs.parsing.walk.Goals as goal

pub loop-part-preserved : goal.loop-part-preserved
loop-part-preserved g c =
    let l = c.loop-part in
    let views = g.W.WordReader.views c.args.reader.now in
    l.invariant ∙ ap (λ s. walked views s c.args.first (state_of l.building)) (popped l.stack.items c.pop.new.self.items c.in-Some.part c.in-Some.ensures.items)
    ∙ left_over views c.args.first c.in-Some.part (stacked c.pop.new.self.items) (state_of l.building) _
    (halts_is c.move_at-owing.result _ c.move_at-owing.ensures c.in-Skip.is) c.in_ok-leave_out-in-Skip.ensures

pub returns-in-Push : goal.returns-in-Push
returns-in-Push g c =
    let l = c.loop-part in
    let views = g.W.WordReader.views c.args.reader.now in
    l.invariant ∙ ap (λ s. walked views s c.args.first (state_of l.building)) (popped l.stack.items c.pop.new.self.items c.in-Some.part c.in-Some.ensures.items)
    ∙ goes_on views c.args.first c.in-Some.part (stacked c.pop.new.self.items) (state_of l.building) _ (stacked c.in-Ok.behind.items) _
    (goes_is c.move_at-owing.result _ c.in-Push.parts c.move_at-owing.ensures c.in-Push.is) c.in-Ok.ensures.owed
    (c.in_ok-act-in-Push.ensures ∙ ap (λ r. acted views r c.args.first (state_of l.building)) c.role_of.ensures)
