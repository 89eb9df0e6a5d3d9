use Rattle.std.proofs.Common.{◌≡◌, length}
use Rattle.ps_lines.specs.Texts.{texts_of}
use Rattle.ut_args.specs.Keys.{keys_of}
use Rattle.ut_args.proofs.ListLemmas.{onto_all}
use Rattle.ut_args.proofs.keys.keys_of.Given as goal

abbrev pub invariant-loop-left : goal.invariant-loop-left
invariant-loop-left l = keys_of (texts_of l.initial.left) ≡ onto_all l.keys (keys_of (texts_of l.left))

abbrev pub decreases-loop-left : goal.decreases-loop-left
decreases-loop-left l = length l.left
