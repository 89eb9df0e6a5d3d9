use Rattle.std.specs.Result.{is_ok}
use Rattle.ps_lines.specs.Lines.{lines}
use Rattle.ut_grep.specs.Tallies.{due_of}
use Rattle.ut_grep.proofs.SelectionLemmas.{Wrote-both, Wrote-both_stopped}
use Rattle.ut_grep.proofs.selection.take_found.Goals as goal

pub returns-in-Err-clause-wrote : goal.returns-in-Err-clause-wrote
returns-in-Err-clause-wrote c = λ test all found.
    Wrote-both_stopped (due_of c.args.tally.now test) (due_of c.take.new.self test) (due_of c.take.new.self test) (lines c.args.before.now) c.args.line.now c.args.out.now.items
    c.take.new.out.items (c.in-Err.ensures.wrote test all)

pub returns-in-Ok-clause-wrote : goal.returns-in-Ok-clause-wrote
returns-in-Ok-clause-wrote c = λ test all found.
    Wrote-both (due_of c.args.tally.now test) (due_of c.take.new.self test) (due_of c.take_line.new.self test) (lines c.args.before.now) c.args.line.now c.args.out.now.items
    c.take.new.out.items c.take_line.new.out.items (is_ok c.take_line.result) (c.in-Ok.ensures.wrote test all) (c.take_line.ensures.wrote test found)
