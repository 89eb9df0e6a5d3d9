use Rattle.std.proofs.Common.{◌≡◌, ◌++◌}
use Rattle.ps_lines.specs.Texts.{texts_of}
use Rattle.sh_expand.proofs.fields.append.Given as goal

abbrev pub invariant-loop-name : goal.invariant-loop-name
invariant-loop-name l = texts_of l.out.items ≡ texts_of l.fn.out.items ++ texts_of l.yielded
