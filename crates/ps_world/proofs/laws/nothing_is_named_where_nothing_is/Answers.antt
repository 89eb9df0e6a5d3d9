use Rattle.ps_world.proofs.StandingLemmas.{resolve-empty}
use Rattle.ps_world.proofs.laws.nothing_is_named_where_nothing_is.Goals as goal

pub returns : goal.returns
returns c home text = resolve-empty home text
