use Rattle.std.proofs.Common.{◌∙◌, sym}
use Rattle.std.specs.Ordering.{nat_cmp}
use Rattle.ut_sort.proofs.DigitLemmas.{equal_lengths, other_lengths}
use Rattle.ut_sort.proofs.numbers.compare_wholes.Goals as goal

pub returns-in-Equal : goal.returns-in-Equal
returns-in-Equal c =
    c.cmp-in-Equal.ensures
    ∙ equal_lengths c.without_front_zeros-one.result.now c.without_front_zeros-other.result.now c.without_front_zeros-one.ensures.digits
    c.without_front_zeros-other.ensures.digits (sym c.in-Equal.is ∙ c.cmp.ensures)
    ∙ λ i. nat_cmp (c.without_front_zeros-one.ensures.value i) (c.without_front_zeros-other.ensures.value i)

pub returns-in_default : goal.returns-in_default
returns-in_default c =
    other_lengths c.cmp.result c.without_front_zeros-one.result.now c.without_front_zeros-other.result.now c.without_front_zeros-one.ensures.digits
    c.without_front_zeros-other.ensures.digits c.without_front_zeros-one.ensures.first c.without_front_zeros-other.ensures.first c.cmp.ensures c.in_default.not-Equal
    ∙ λ i. nat_cmp (c.without_front_zeros-one.ensures.value i) (c.without_front_zeros-other.ensures.value i)
