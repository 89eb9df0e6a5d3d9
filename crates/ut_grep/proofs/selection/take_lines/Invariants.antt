use Rattle.std.proofs.Common.{◌≡◌, ℕ, ◌++◌, List, true, length}
use Rattle.ps_lines.specs.Lines.{is_closed, lines}
use Rattle.ut_streams.specs.Streams.{Wrote}
use Rattle.ut_regex.specs.Answers.{answers}
use Rattle.ut_grep.specs.Output.{picked_by}
use Rattle.ut_grep.specs.Tallies.{due_of, selects_of}
use Rattle.ut_grep.proofs.selection.take_lines.Given as goal

abbrev pub invariant-loop-left : goal.invariant-loop-left
invariant-loop-left l = record {
  closed : is_closed l.left ≡ true;
  same : (line : List ℕ) → answers l.matcher line ≡ answers l.initial.matcher line;
  wrote : Wrote (λ more. due_of l.initial.tally (picked_by l.inverts (answers l.initial.matcher)) (lines l.initial.left ++ more))
      (λ more. due_of l.tally (picked_by l.inverts (answers l.initial.matcher)) (lines l.left ++ more)) l.initial.out.items l.out.items true;
  selects : (more : List (List ℕ)) → selects_of l.tally (picked_by l.inverts (answers l.initial.matcher)) (lines l.left ++ more)
      ≡ selects_of l.initial.tally (picked_by l.inverts (answers l.initial.matcher)) (lines l.initial.left ++ more);
}

abbrev pub decreases-loop-left : goal.decreases-loop-left
decreases-loop-left l = length l.left
