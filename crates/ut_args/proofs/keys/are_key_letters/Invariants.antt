use Rattle.std.proofs.Common.{◌≡◌, length, codes}
use Rattle.std.specs.List.{list_all}
use Rattle.ut_options.specs.Rows.{is_among}
use Rattle.ut_args.proofs.keys.are_key_letters.Given as goal

abbrev pub invariant-loop-left : goal.invariant-loop-left
invariant-loop-left l = list_all (is_among (codes "bfnr")) l.initial.left ≡ list_all (is_among (codes "bfnr")) l.left

abbrev pub decreases-loop-left : goal.decreases-loop-left
decreases-loop-left l = length l.left
