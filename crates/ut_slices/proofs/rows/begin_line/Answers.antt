use Rattle.std.proofs.Common.{rules, ◌++◌, [], drop, true, false, refl, if◌then◌else◌}
use Rattle.ut_streams.specs.Streams.{Put}
use Rattle.ut_slices.specs.Paste.{first_delimiter}
use Rattle.ut_slices.proofs.WalkLemmas.{Goes-opened, Goes-opened_stopped}
use Rattle.ut_slices.proofs.rows.begin_line.Goals as goal

pub returns-in-Ok-clause-goes : goal.returns-in-Ok-clause-goes
returns-in-Ok-clause-goes c =
    let walk = c.args.walk.now in
    let put : Put (if walk.within then [] else walk.front.items ++ first_delimiter (drop walk.delimiter c.args.plan.now.delimiters.items)) c.args.out.now.items c.put_opening.new.out.items true =
    search rules in
    Goes-opened c.args.plan.now walk _ c.args.port c.args.out.now.items c.put_opening.new.out.items c.requires.here c.requires.some refl refl refl refl refl c.clear.ensures.items put

pub returns-in-Err-clause-goes : goal.returns-in-Err-clause-goes
returns-in-Err-clause-goes c =
    let walk = c.args.walk.now in
    let put : Put (if walk.within then [] else walk.front.items ++ first_delimiter (drop walk.delimiter c.args.plan.now.delimiters.items)) c.args.out.now.items c.put_opening.new.out.items false =
    search rules in
    Goes-opened_stopped c.args.plan.now walk c.args.port c.args.out.now.items c.put_opening.new.out.items c.requires.here c.requires.some put
