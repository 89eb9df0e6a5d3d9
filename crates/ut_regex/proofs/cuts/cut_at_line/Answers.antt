use Rattle.std.proofs.Common.{◌+◌}
use Rattle.std.proofs.lemmas.List.{take_rest}
use Rattle.ps_lines.proofs.ClosedLemmas.{closed-drop}
use Rattle.ut_regex.proofs.CutLemmas.{newline-closed}
use Rattle.ut_regex.proofs.cuts.cut_at_line.Goals as goal

pub returns-in-Some-clause-closed : goal.returns-in-Some-clause-closed
returns-in-Some-clause-closed c = λ closed. rw take_rest (
  newline-closed c.args.text.now c.args.place c.in-Some.offset (rw take_rest at c.in-Some.ensures),
  closed-drop c.args.text.now (c.args.place + c.in-Some.offset + 1) closed,
)
