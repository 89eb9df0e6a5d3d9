use Rattle.std.proofs.Common.{sym, subst, ap, ◌∙◌, ◌++◌, ◌∷◌, [], ◌+◌, true, false, take, drop}
use Rattle.ps_lines.specs.Lines.{text_of_lines}
use Rattle.ut_streams.specs.Streams.{Put}
use Rattle.ut_streams.proofs.StreamLemmas.{Put-after, Put-broken}
use Rattle.ut_sort.specs.Places.{lines_in}
use Rattle.ut_sort.proofs.PlaceLemmas.{text-next, text-parts}
use Rattle.ut_sort.proofs.writing.put_lines.Goals as goal

pub loop-place-preserved : goal.loop-place-preserved
loop-place-preserved c =
    subst (λ text. Put text c.args.out.now.items c.put_line.new.out.items true) (sym (text-next c.args.text.now c.args.places.now c.loop-place.place-index _ c.loop-place-test.true))
    (Put-after (text_of_lines (lines_in c.args.text.now (take c.loop-place.place-index c.args.places.now))) _ c.args.out.now.items c.loop-place.out.items
    c.put_line.new.out.items true c.loop-place.invariant
    (subst (λ line. Put (line ++ 10 ∷ []) c.loop-place.out.items c.put_line.new.out.items true) c.line_in.ensures c.in-Ok.ensures))

pub returns-in-Err : goal.returns-in-Err
returns-in-Err c =
    subst (λ text. Put text c.args.out.now.items c.put_line.new.out.items false)
    (sym (text-parts c.args.text.now c.args.places.now (c.loop-place.place-index + 1)
    ∙ ap (λ front. front ++ text_of_lines (lines_in c.args.text.now (drop (c.loop-place.place-index + 1) c.args.places.now)))
    (text-next c.args.text.now c.args.places.now c.loop-place.place-index _ c.loop-place-test.true)))
    (Put-broken _ _ c.args.out.now.items c.put_line.new.out.items
    (Put-after (text_of_lines (lines_in c.args.text.now (take c.loop-place.place-index c.args.places.now))) _ c.args.out.now.items c.loop-place.out.items
    c.put_line.new.out.items false c.loop-place.invariant
    (subst (λ line. Put (line ++ 10 ∷ []) c.loop-place.out.items c.put_line.new.out.items false) c.line_in.ensures c.in-Err.ensures)))
