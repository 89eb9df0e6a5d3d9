use Rattle.std.proofs.Common.{◌≡◌, ◌++◌, drop}
use Rattle.ps_lines.specs.Texts.{texts_of}
use Rattle.ut_test.specs.Echo.{spaced}
use Rattle.ut_test.proofs.writing.put_others.Given as goal

abbrev pub invariant-loop-word : goal.invariant-loop-word
invariant-loop-word l = l.out.items ++ spaced (texts_of (drop l.word-index l.others)) ≡ l.initial.out.items ++ spaced (texts_of l.others)
