use Rattle.std.proofs.Common.{rules, arith, ap, sym, subst, ◌∙◌}
use Rattle.ut_sort.specs.Places.{ArePlaces, RiseTo, lines_in}
use Rattle.ut_sort.proofs.PlaceLemmas.{at-place, lines-push, place-is, places-push, rise-push}
use Rattle.ut_sort.proofs.places.push_place.Goals as goal

pub returns-clause-lines : goal.returns-clause-lines
returns-clause-lines c =
    ap (lines_in c.args.text.now) c.in_ok-push.ensures.items
    ∙ lines-push c.args.text.now c.args.places.now.items _ c.args.line.now
    (at-place c.args.text.now c.args.left.now c.args.line.now _ c.requires.left c.requires.line (search rules))

pub returns-clause-places : goal.returns-clause-places
returns-clause-places c = λ are.
    subst (ArePlaces c.args.order.now c.args.text.now) (sym c.in_ok-push.ensures.items)
    (places-push c.args.order.now c.args.text.now c.args.places.now.items _ are
    (place-is c.args.order.now c.args.text.now _ c.args.line.now
    (at-place c.args.text.now c.args.left.now c.args.line.now _ c.requires.left c.requires.line (search rules)) c.number_of.ensures.number c.number_of.ensures.key))

pub returns-clause-rise : goal.returns-clause-rise
returns-clause-rise c = λ rise.
    subst (RiseTo _) (sym c.in_ok-push.ensures.items) (rise-push _ _ c.args.places.now.items _ rise (omega arith) (omega arith))
