use Rattle.std.specs.Cmp.Derive.Mapped.{lex_map}
use Rattle.fl_text.proofs.files.FileOrd.cmp.Goals as goal

pub returns : goal.returns
returns c =
    rw (← c.self.view_is, ← c.other.view_is, ← c.path.view_is, ← c.other-2.view_is, lex_map, ← c.as_slice.ensures.value, ← c.as_slice-2.ensures.value) c.cmp.ensures
