use Rattle.std.proofs.Common.{rules, ◌++◌, ◌∷◌, [], true, false, refl}
use Rattle.ut_streams.specs.Streams.{Put}
use Rattle.ut_slices.proofs.WalkLemmas.{Goes-row, Goes-row_stopped}
use Rattle.ut_slices.proofs.rows.end_row.Goals as goal

pub returns-in-Ok-clause-goes : goal.returns-in-Ok-clause-goes
returns-in-Ok-clause-goes c =
    let put : Put (c.args.walk.now.front.items ++ 10 ∷ []) c.args.out.now.items c.put_line.new.out.items true = search rules in
    Goes-row c.args.plan.now c.args.walk.now _ c.args.out.now.items c.put_line.new.out.items c.requires.behind c.requires.begun refl refl refl refl refl c.clear.ensures.items put

pub returns-in-Err-clause-goes : goal.returns-in-Err-clause-goes
returns-in-Err-clause-goes c =
    let put : Put (c.args.walk.now.front.items ++ 10 ∷ []) c.args.out.now.items c.put_line.new.out.items false = search rules in
    Goes-row_stopped c.args.plan.now c.args.walk.now c.args.out.now.items c.put_line.new.out.items c.requires.behind c.requires.begun put
