-- The type of marked bytes, for callers.
use Rattle.std.specs.Prelude.{List}
use Rattle.sh_expand.specs.declared.marks.Marked.{Marked}

abbrev pub MarkedText : Type 0
MarkedText = List Marked
