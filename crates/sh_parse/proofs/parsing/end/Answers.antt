use Rattle.std.proofs.Common.{◌∙◌, ap, sym}
use Rattle.sh_parse.specs.Inner.Building.{ended}
use Rattle.sh_parse.specs.Inner.Built.{state_of}
use Rattle.sh_parse.specs.Inner.Moves.{stacked}
use Rattle.sh_parse.proofs.Checks.{popped}
use Rattle.sh_parse.proofs.parsing.end.Goals as goal

pub loop-part-preserved : goal.loop-part-preserved
loop-part-preserved c =
    let l = c.loop-part in
    l.invariant ∙ ap (λ s. ended s (state_of l.building)) (popped l.stack.items c.pop.new.self.items c.in-Some.part c.in-Some.ensures.items)
    ∙ ap (ended (stacked c.pop.new.self.items)) (sym c.in_ok-leave_out.ensures)
