use Rattle.ps_fakes.proofs.PathLemmas.{starts_with-texts}
use Rattle.ps_fakes.proofs.standing.is_on_way_to.Goals as goal

pub returns : goal.returns
returns c = rw (← c.path.view_is, ← c.other.view_is, starts_with-texts, ← c.as_slice.ensures.value, ← c.as_slice-2.ensures.value) c.starts_with.ensures.value
