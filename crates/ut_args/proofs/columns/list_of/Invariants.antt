use Rattle.std.proofs.Common.{◌≡◌, length}
use Rattle.ut_args.specs.Lists.{list_of}
use Rattle.ut_args.proofs.ListLemmas.{onto_all}
use Rattle.ut_args.proofs.columns.list_of.Given as goal

abbrev pub invariant-loop-part : goal.invariant-loop-part
invariant-loop-part l = list_of l.initial.left ≡ onto_all l.ranges (list_of l.left)

abbrev pub decreases-loop-part : goal.decreases-loop-part
decreases-loop-part l = length l.left
