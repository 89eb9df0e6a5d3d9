use Rattle.std.proofs.lemmas.List.{take_rest}
use Rattle.ut_streams.proofs.StreamLemmas.{CutsLastLine-none, CutsLastLine-some}
use Rattle.ut_streams.proofs.line_streams.cut_last_line.Goals as goal

pub returns-in-Some-clause-cut : goal.returns-in-Some-clause-cut
returns-in-Some-clause-cut c = rw take_rest (CutsLastLine-some c.args.text.now c.in-Some.end c.in-Some.ensures)

pub returns-in-None-clause-cut : goal.returns-in-None-clause-cut
returns-in-None-clause-cut c = CutsLastLine-none c.args.text.now c.in-None.ensures
