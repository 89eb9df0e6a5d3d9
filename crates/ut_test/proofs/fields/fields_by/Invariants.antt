use Rattle.std.proofs.Common.{◌≡◌, ◌++◌}
use Rattle.ps_lines.specs.ByteSet.{has_byte}
use Rattle.ps_lines.specs.Texts.{texts_of}
use Rattle.ut_test.specs.Fields.{fields_by, fields_from}
use Rattle.ut_test.proofs.fields.fields_by.Given as goal

abbrev pub invariant-loop-more : goal.invariant-loop-more
invariant-loop-more l = texts_of l.fields.items ++ fields_from (has_byte l.separators) l.left l.more ≡ fields_by (has_byte l.separators) l.line l.names

abbrev pub decreases-loop-more : goal.decreases-loop-more
decreases-loop-more l = l.more
