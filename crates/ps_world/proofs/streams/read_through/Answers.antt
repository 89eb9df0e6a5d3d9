use Rattle.ps_world.proofs.ToldLemmas.{left_of-left, on_any_err}
use Rattle.ps_world.proofs.streams.read_through.Goals as goal

pub returns-in_err-count-clause-err : goal.returns-in_err-count-clause-err
returns-in_err-count-clause-err g c = on_any_err _ (left_of-left _ _ _ _ c.loop-text.invariant.before c.in_err-count.ensures.err)
