use Rattle.std.specs.Cmp.Derive.Mapped.{pointwise-map}
use Rattle.ut_options.proofs.texts.TextsPartialEq.eq.Goals as goal

pub returns : goal.returns
returns c = rw (← c.self.view_is, ← c.other.view_is, pointwise-map, ← c.as_slice.ensures.value, ← c.as_slice-2.ensures.value) c.eq.ensures
