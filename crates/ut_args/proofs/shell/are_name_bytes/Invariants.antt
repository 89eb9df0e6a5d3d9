use Rattle.std.proofs.Common.{◌≡◌, length}
use Rattle.std.specs.List.{list_all}
use Rattle.ps_lines.specs.Bytes.{is_name_byte}
use Rattle.ut_args.proofs.shell.are_name_bytes.Given as goal

abbrev pub invariant-loop-left : goal.invariant-loop-left
invariant-loop-left l = list_all is_name_byte l.initial.left ≡ list_all is_name_byte l.left

abbrev pub decreases-loop-left : goal.decreases-loop-left
decreases-loop-left l = length l.left
