use Rattle.std.proofs.Common.{◌≡◌, ◌++◌, length}
use Rattle.std.specs.List.{filter}
use Rattle.ps_lines.specs.Texts.{texts_of}
use Rattle.ut_args.specs.Inputs.{is_named}
use Rattle.ut_args.proofs.labels.named.Given as goal

abbrev pub invariant-loop-left : goal.invariant-loop-left
invariant-loop-left l =
    texts_of l.initial.names.items ++ filter is_named (texts_of l.initial.left) ≡ texts_of l.names.items ++ filter is_named (texts_of l.left)

abbrev pub decreases-loop-left : goal.decreases-loop-left
decreases-loop-left l = length l.left
