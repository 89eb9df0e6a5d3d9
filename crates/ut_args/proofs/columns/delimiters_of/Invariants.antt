use Rattle.std.proofs.Common.{◌≡◌, length}
use Rattle.ut_args.specs.Lists.{delimiters_from}
use Rattle.ut_args.proofs.ListLemmas.{onto_all}
use Rattle.ut_args.proofs.columns.delimiters_of.Given as goal

abbrev pub invariant-loop-left : goal.invariant-loop-left
invariant-loop-left l = delimiters_from l.initial.behind_backslash l.initial.left ≡ onto_all l.delimiters (delimiters_from l.behind_backslash l.left)

abbrev pub decreases-loop-left : goal.decreases-loop-left
decreases-loop-left l = length l.left
