use Rattle.std.proofs.Common.{◌∙◌}
use Rattle.ut_regex.proofs.TextLemmas.{left-in-front, left-in-back}
use Rattle.ut_regex.proofs.texts.TextTable.left_at_found.Goals as goal

pub returns-in-Some-clause-found : goal.returns-in-Some-clause-found
returns-in-Some-clause-found c =
    let entries = c.args.self.now.next.items in
    left-in-front entries c.args.text.now c.cut_at_line.result.0.now c.cut_at_line.result.1.now c.in-Some.left c.cut_at_line.ensures.whole
    (rw (c.deref.ensures.value) at c.in-Some.ensures.found)

pub returns-in-None-clause-found : goal.returns-in-None-clause-found
returns-in-None-clause-found c =
    let entries = c.args.self.now.next.items in
    c.left_in_tail.ensures.found
    ∙ left-in-back entries c.args.self.now.begins c.args.text.now c.cut_at_line.result.0.now c.cut_at_line.result.1.now c.cut_at_line.ensures.whole
    (c.cut_at_line.ensures.closed c.requires).0 (rw (c.deref.ensures.value) at c.in-None.ensures.found)
