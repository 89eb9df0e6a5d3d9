use Rattle.std.proofs.Common.{length, false}
use Rattle.ut_slices.proofs.PutLemmas.{PutSoFar}
use Rattle.ut_slices.specs.Cut.{fields, selected}
use Rattle.ut_slices.specs.Inner.Begun.{joined_behind}
use Rattle.ut_slices.specs.Inner.Runs.{in_runs}
use Rattle.ut_slices.proofs.cuts.put_field_runs.Given as goal

abbrev pub invariant-loop-run : goal.invariant-loop-run
invariant-loop-run l =
    PutSoFar (joined_behind false l.delimiter (selected (in_runs l.runs l.rest_selected) 0 (fields l.delimiter l.line)))
    (joined_behind l.begun l.delimiter (selected (in_runs l.left l.rest_selected) 0 (fields l.delimiter l.rest))) l.initial.out.items l.out.items

abbrev pub decreases-loop-run : goal.decreases-loop-run
decreases-loop-run l = length l.left
