use Rattle.std.proofs.Common.{rules, ◌+◌, ◌*◌, length}
use Rattle.std.proofs.lemmas.Fn.{always_returns_same, dedup_same}
use Rattle.std.specs.Ordering.{is_lt, eq_by_cmp}
use Rattle.ut_sort.specs.Places.{place_cmp, tie_cmp}
use Rattle.ut_sort.proofs.ArrangingLemmas.{lent-moved}
use Rattle.ut_sort.proofs.PlaceLemmas.{all_places, first_places, place_ranks}
use Rattle.ut_sort.proofs.places.sort_places.Goals as goal

pub returns-then-order : goal.returns-then-order
returns-then-order c =
    let moved = lent-moved c.args.places.now _ c.arrange.new.places _ c.as_mut_slice.ensures.value c.as_mut_slice.ensures.len c.arrange.ensures
    c.sort_unstable_by.ensures.permutation in
    first_places c.args.order.now c.args.text.now (65536 * (length c.args.text.now + 1)) c.args.places.now.items c.sort_unstable_by.new.self.items c.dedup_by.new.self.items
    c.if-order.true c.requires.places c.requires.rise moved
    (c.sort_unstable_by.ensures.sorted (λ one other. is_lt (place_cmp c.args.order.now c.args.text.now one other)) (place_ranks c.args.order.now c.args.text.now)
    (always_returns_same _ _ _ (λ a r f k. search rules)))
    (dedup_same _ (eq_by_cmp (tie_cmp c.args.order.now c.args.text.now)) _ (λ x y b f x' y' k. search rules) _ _ c.dedup_by.ensures.filtered)

pub returns-else-order : goal.returns-else-order
returns-else-order c =
    let moved = lent-moved c.args.places.now _ c.arrange.new.places _ c.as_mut_slice.ensures.value c.as_mut_slice.ensures.len c.arrange.ensures
    c.sort_unstable_by.ensures.permutation in
    all_places c.args.order.now c.args.text.now (65536 * (length c.args.text.now + 1)) c.args.places.now.items c.sort_unstable_by.new.self.items
    c.if-order.false c.requires.places c.requires.rise moved
    (c.sort_unstable_by.ensures.sorted (λ one other. is_lt (place_cmp c.args.order.now c.args.text.now one other)) (place_ranks c.args.order.now c.args.text.now)
    (always_returns_same _ _ _ (λ a r f k. search rules)))
