use Rattle.std.proofs.lemmas.List.{take_rest}
use Rattle.ut_regex.proofs.CutLemmas.{last-closed, last-plain, none-plain}
use Rattle.ut_regex.proofs.cuts.cut_last_line.Goals as goal

pub returns-in-Some-clause-ends : goal.returns-in-Some-clause-ends
returns-in-Some-clause-ends c = last-closed c.args.text.now c.in-Some.end c.in-Some.ensures

pub returns-in-Some-clause-plain : goal.returns-in-Some-clause-plain
returns-in-Some-clause-plain c = rw take_rest (last-plain c.args.text.now c.in-Some.end c.in-Some.ensures)

pub returns-in-None-clause-plain : goal.returns-in-None-clause-plain
returns-in-None-clause-plain c = none-plain c.args.text.now c.in-None.ensures
