-- The order of lines that is kept for one invocation, and the number that a line has in it.
use Rattle.std.specs.Prelude.{ℕ, List, drop, if◌then◌else◌}
use Rattle.std.specs.declared.cmp.Ordering.{Ordering}
use Rattle.std.specs.declared.cmp.Ordering.TheVariants.{Equal}
use Rattle.std.specs.Ordering.{ordering_then}
use Rattle.ut_sort.specs.declared.line_orders.LineOrder.{LineOrder}
use Rattle.ut_sort.specs.Keys.{keys_cmp}
use Rattle.ut_sort.specs.Order.{last_cmp, lines_cmp}
use Rattle.ut_sort.specs.Prefixes.{begins_whole, first_letters, is_exact, keys_number}
use Rattle.ut_sort.specs.Sorted.{sorted}

-- the order that is kept
abbrev pub cmp_by : LineOrder → List ℕ → List ℕ → Ordering
cmp_by order one other = lines_cmp order.separator order.keys.items order.unique order.reverse one other

-- lines in this order
abbrev pub sorted_by : LineOrder → List (List ℕ) → List (List ℕ)
sorted_by order texts = sorted (cmp_by order) order.unique texts

-- the number of a line
abbrev pub number_by : LineOrder → List ℕ → ℕ
number_by order line = keys_number order.separator order.keys.items line

-- the order of two lines that have this number
abbrev pub rest_by : LineOrder → List ℕ → List ℕ → Ordering
rest_by order one other =
    if begins_whole order.keys.items then Equal
    else ordering_then (keys_cmp order.separator (drop 1 order.keys.items) one other) (last_cmp order.unique order.reverse one other)

abbrev pub tied_by : LineOrder → ℕ → List ℕ → List ℕ → Ordering
tied_by order number one other =
    if is_exact (first_letters order.keys.items) number then rest_by order one other else cmp_by order one other
