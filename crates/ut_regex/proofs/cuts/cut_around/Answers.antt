use Rattle.std.proofs.lemmas.List.{take_rest}
use Rattle.ut_regex.proofs.CutLemmas.{at-end, cuts-out}
use Rattle.ut_regex.proofs.cuts.cut_around.Goals as goal

pub returns-in_default-clause-none : goal.returns-in_default-clause-none
returns-in_default-clause-none c = at-end c.args.text.now c.args.place c.requires (rw take_rest at c.in_default.ensures.none)

pub returns-clause-cut : goal.returns-clause-cut
returns-clause-cut c =
    rw take_rest (cuts-out c.args.text.now c.cut_last_line.result.0.now c.cut_last_line.result.1.now c.in-Some.ended.now c.in-Some.rest.now c.args.place
    c.cut_last_line.ensures.whole c.cut_last_line.ensures.ends c.cut_last_line.ensures.plain (rw take_rest at c.in-Some.ensures.cut))
