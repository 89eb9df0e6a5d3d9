use Rattle.std.proofs.Common.{◌≡◌, ◌+◌, ◌≤◌, length}
use Rattle.ps_lines.specs.Texts.{texts_of}
use Rattle.std.specs.List.{count_by}
use Rattle.ut_args.specs.Inputs.{is_named}
use Rattle.ut_args.proofs.inputs.count_named.Given as goal

abbrev pub invariant-loop-left : goal.invariant-loop-left
invariant-loop-left l = record {
  count : count_by is_named (texts_of l.initial.left) ≡ l.count + count_by is_named (texts_of l.left);
  fits : l.count + length l.left ≤ length l.initial.left;
}

abbrev pub decreases-loop-left : goal.decreases-loop-left
decreases-loop-left l = length l.left
