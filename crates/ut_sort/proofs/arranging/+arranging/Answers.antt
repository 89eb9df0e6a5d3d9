use Rattle.std.proofs.Common.{arith, rules, refl, ◌∙◌, ◌+◌}
use Rattle.std.proofs.lemmas.List.{take_rest}
use Rattle.std.proofs.lemmas.List.Sorted.{IsPermutation-put_mid, IsPermutation-trans, length_permutation}
use Rattle.ut_sort.proofs.ArrangingLemmas.{moved-between, run-is}
use Rattle.ut_sort.proofs.arranging.+arranging.Goals as goal

pub arrange_equal-returns-in-Some : goal.arrange_equal-returns-in-Some
arrange_equal-returns-in-Some t c =
    moved-between c.args.number c.args.places.now c.number_places.new.places c.arrange_numbered.new.places c.set_numbers.new.places
    c.requires (c.number_places.ensures c.args.number) c.arrange_numbered.ensures c.set_numbers.ensures

pub arrange_numbered-arrange_equal-requires : goal.arrange_numbered-arrange_equal-requires
arrange_numbered-arrange_equal-requires t c = (
  search rules,
  run-is _ c.loop-from.places _ c.loop-from.from c.count_numbered.result _ _ (omega arith) refl (take_rest c.loop-from.places (c.loop-from.from + 1)) (omega arith) c.count_numbered.ensures.equal,
)

pub arrange_numbered-loop-from-preserved : goal.arrange_numbered-loop-from-preserved
arrange_numbered-loop-from-preserved t c =
    let moved = IsPermutation-put_mid c.loop-from.from _ c.loop-from.places c.arrange_equal.new.places c.arrange_equal.ensures in
    let size = length_permutation _ _ moved in
    let within = c.count_numbered.ensures.within in
    (IsPermutation-trans _ _ _ c.loop-from.invariant.0 moved, size ∙ c.loop-from.invariant.1, omega (arith, size, within))

pub arrange_numbered-shape_of-places : goal.arrange_numbered-shape_of-places
arrange_numbered-shape_of-places t c = c.loop-from.invariant.1 ∙ c.sort_unstable_by.ensures.len

pub arrange_numbered-returns : goal.arrange_numbered-returns
arrange_numbered-returns t c = IsPermutation-trans _ _ _ c.sort_unstable_by.ensures.permutation c.loop-from.invariant.0
