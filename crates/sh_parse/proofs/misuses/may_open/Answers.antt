use Rattle.std.proofs.Common.{◌∙◌, sym, ap}
use Rattle.sh_parse.specs.Inner.Moves.{stacked}
use Rattle.sh_parse.specs.Inner.Seeking.{may_open}
use Rattle.sh_parse.proofs.Checks.{popped}
use Rattle.sh_parse.proofs.Seekings.{open_goes, open_skips, open_stuck}
use Rattle.sh_parse.proofs.misuses.may_open.Goals as goal

pub loop-part-preserved : goal.loop-part-preserved
loop-part-preserved c =
    let l = c.loop-part in
    l.invariant ∙ ap may_open (popped l.rest.now c.in-Some.below.now c.in-Some.part.now c.in-Some.ensures.cases.0)
    ∙ open_skips c.in-Some.part.now (stacked c.in-Some.below.now) c.move_at.result c.move_at.ensures c.in-Skip.is

pub returns-in-Push : goal.returns-in-Push
returns-in-Push c =
    let l = c.loop-part in
    open_goes c.in-Some.part.now (stacked c.in-Some.below.now) c.move_at.result c.move_at.ensures c.in-Push.is
    ∙ sym (ap may_open (popped l.rest.now c.in-Some.below.now c.in-Some.part.now c.in-Some.ensures.cases.0)) ∙ sym l.invariant

pub returns-in-Stuck : goal.returns-in-Stuck
returns-in-Stuck c =
    let l = c.loop-part in
    open_stuck c.in-Some.part.now (stacked c.in-Some.below.now) c.move_at.result c.move_at.ensures c.in-Stuck.is
    ∙ sym (ap may_open (popped l.rest.now c.in-Some.below.now c.in-Some.part.now c.in-Some.ensures.cases.0)) ∙ sym l.invariant
