use Rattle.std.proofs.Common.{rules, ◌≡◌, ◌++◌, drop, ◌∙◌}
use Rattle.std.proofs.lemmas.Option.{slice_get_within}
use Rattle.ut_slices.specs.Paste.{first_delimiter}
use Rattle.ut_slices.proofs.WalkLemmas.{Goes-left, front-within, front-before}
use Rattle.ut_slices.proofs.rows.leave_column.Goals as goal

pub returns-then-walk-clause-goes : goal.returns-then-walk-clause-goes
returns-then-walk-clause-goes c out =
    let walk = c.args.walk.now in
    Goes-left c.args.plan.now walk c.next_column.new.walk c.args.port out c.requires.here c.requires.none c.requires.ended
    c.next_column.ensures.ports c.next_column.ensures.column c.next_column.ensures.outside c.next_column.ensures.begun c.next_column.ensures.delimiter
    (front-within c.args.plan.now walk c.next_column.new.walk.front.items c.if-walk.true (c.next_column.ensures.front ∙ c.clear.ensures.items))

pub next_column-requires : goal.next_column-requires
next_column-requires c = record { here = slice_get_within c.args.plan.now.columns.items c.args.walk.now.column c.args.port c.requires.here }

pub next_column-requires-in-Ok : goal.next_column-requires-in-Ok
next_column-requires-in-Ok c = record { here = slice_get_within c.args.plan.now.columns.items c.args.walk.now.column c.args.port c.requires.here }

pub returns-in-Ok-clause-goes : goal.returns-in-Ok-clause-goes
returns-in-Ok-clause-goes c out =
    let walk = c.args.walk.now in
    let put : c.put_delimiter.new.out.items ≡ walk.front.items ++ first_delimiter (drop walk.delimiter c.args.plan.now.delimiters.items) = search rules in
    Goes-left c.args.plan.now walk c.next_column-in-Ok.new.walk c.args.port out c.requires.here c.requires.none c.requires.ended
    c.next_column-in-Ok.ensures.ports c.next_column-in-Ok.ensures.column c.next_column-in-Ok.ensures.outside c.next_column-in-Ok.ensures.begun c.next_column-in-Ok.ensures.delimiter
    (front-before c.args.plan.now walk c.next_column-in-Ok.new.walk.front.items c.if-walk.false (c.next_column-in-Ok.ensures.front ∙ put))
