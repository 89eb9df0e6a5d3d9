use Rattle.std.proofs.Common.{rules}
use Rattle.ut_sort.specs.Writing.{left_behind}
use Rattle.ut_sort.proofs.PlaceLemmas.{left-parts, piece-grows, put-broken, put-some}
use Rattle.ut_sort.proofs.writing.put_next.Goals as goal

pub returns-in-Ok-clause-ok : goal.returns-in-Ok-clause-ok
returns-in-Ok-clause-ok c =
    put-some (left_behind c.args.text.now c.args.places.now c.args.given) _ _ c.args.out.now.items c.put_lines.new.out.items
    (left-parts c.args.text.now c.args.places.now c.args.given c.min-from.result c.piece_of-count.result (search rules)) c.in-Ok.ensures

pub returns-in-Ok-clause-some : goal.returns-in-Ok-clause-some
returns-in-Ok-clause-some c =
    piece-grows c.args.text.now c.args.places.now c.args.given c.min-from.result c.piece_of-count.result c.args.out.now.items c.put_lines.new.out.items (search rules)
    c.piece_of-count.ensures.some c.in-Ok.ensures

pub returns-in-Err-clause-err : goal.returns-in-Err-clause-err
returns-in-Err-clause-err c =
    put-broken (left_behind c.args.text.now c.args.places.now c.args.given) _ _ _ c.args.out.now.items c.put_lines.new.out.items
    (left-parts c.args.text.now c.args.places.now c.args.given c.min-from.result c.piece_of-count.result (search rules)) c.in-Err.ensures
