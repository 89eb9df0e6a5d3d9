use Rattle.std.proofs.Common.{rules, ◌≡◌, ◌&&◌, nat_lt, [], refl, ap, sym, ◌∙◌}
use Rattle.std.specs.Result.{is_ok}
use Rattle.ut_groups.specs.Counting.{added, saturated_counts}
use Rattle.fl_joints.specs.Joints.{counts_by}
use Rattle.fl_joints.proofs.SumLemmas.{due-bytes, due-end}
use Rattle.fl_joints.proofs.sums.CountSumMachine.take.Goals as goal

pub returns-else-self-clause-due : goal.returns-else-self-clause-due
returns-else-self-clause-due c =
    λ whole.
    let it = c.args.self.now in
    rw c.in-Bytes.is
    (due-bytes it.reading it.given (it.putting && it.broken) (nat_lt it.at it.ins) it.putting it.at it.ins it.line.items it.sum c.requires.turn c.in-Bytes.bytes
    c.hold-held.new.line.items (search rules))

pub returns-in-End-clause-due : goal.returns-in-End-clause-due
returns-in-End-clause-due c =
    λ whole.
    let it = c.args.self.now in
    let read : c.read_by.result ≡ counts_by it.reading it.line.items = c.read_by.ensures ∙ ap (counts_by it.reading) c.as_slice-in-End.ensures.value in
    rw c.in-End.is
    (due-end it.reading it.given (it.putting && it.broken) (nat_lt it.at it.ins) it.putting it.at it.ins it.line.items it.sum c.requires.turn refl c.clear.new.self.items
    c.add_counts-self.result c.clear.ensures.items (c.add_counts-self.ensures ∙ ap (λ counts. saturated_counts (added it.sum counts)) read))
