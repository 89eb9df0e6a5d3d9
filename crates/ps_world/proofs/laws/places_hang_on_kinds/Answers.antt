use Rattle.ps_world.proofs.StandingLemmas.{resolve_by_kinds}
use Rattle.ps_world.proofs.laws.places_hang_on_kinds.Goals as goal

pub returns : goal.returns
returns c files others same home text = resolve_by_kinds files others same home text
