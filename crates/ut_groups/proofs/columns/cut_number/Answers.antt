use Rattle.std.proofs.Common.{rules, ◌+◌, sym, ◌∙◌}
use Rattle.std.proofs.lemmas.List.{take_rest}
use Rattle.ut_groups.proofs.ColumnLemmas.{behind-none, behind-there, front-none, front-there}
use Rattle.ut_groups.proofs.columns.cut_number.Goals as goal

pub returns-in-Some-clause-number : goal.returns-in-Some-clause-number
returns-in-Some-clause-number c = search (rules, front-there c.args.text.now c.in-Some.end (sym c.in-Some.is ∙ c.space_in.ensures))

pub returns-in-Some-clause-rest : goal.returns-in-Some-clause-rest
returns-in-Some-clause-rest c =
    take_rest c.args.text.now (c.in-Some.end + 1) ∙ behind-there c.args.text.now c.in-Some.end (sym c.in-Some.is ∙ c.space_in.ensures)

pub returns-in-None-clause-number : goal.returns-in-None-clause-number
returns-in-None-clause-number c = search (rules, front-none c.args.text.now (sym c.in-None.is ∙ c.space_in.ensures))

pub returns-in-None-clause-rest : goal.returns-in-None-clause-rest
returns-in-None-clause-rest c = search (rules, behind-none c.args.text.now (sym c.in-None.is ∙ c.space_in.ensures))
