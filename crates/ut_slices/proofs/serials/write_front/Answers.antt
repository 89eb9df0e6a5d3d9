use Rattle.std.proofs.Common.{rules, ◌<◌, drop, length}
use Rattle.ut_slices.proofs.SerialLemmas.{part-stopped, part-written}
use Rattle.ut_slices.proofs.serials.write_front.Goals as goal

pub returns-in-Ok : goal.returns-in-Ok
returns-in-Ok c =
    let row = c.args.row.now in
    let some : 0 < length c.args.front.now = search rules in
    part-written (drop 1 c.args.delimiters.now) (drop row.delimiter c.args.delimiters.now) row.within c.args.out.now.items c.write_part.new.out.items _ c.write_part.new.row.within
    c.args.front.now some c.requires c.in-Ok.ensures.place c.in-Ok.ensures.within c.in-Ok.ensures.put

pub returns-in-Err : goal.returns-in-Err
returns-in-Err c =
    let row = c.args.row.now in
    let some : 0 < length c.args.front.now = search rules in
    part-stopped (drop 1 c.args.delimiters.now) (drop row.delimiter c.args.delimiters.now) row.within c.args.out.now.items c.write_part.new.out.items _ c.args.front.now some c.requires
    c.in-Err.ensures.put
