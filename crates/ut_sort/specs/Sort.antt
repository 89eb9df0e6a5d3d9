-- sort (XCU sort): it reads all its inputs as one, and sorts their lines. What is made of a part is the part in order, and neighbours are
-- merged.
use Rattle.std.specs.Prelude.{false}
use Rattle.ut_args.specs.declared.SortArgs.{SortArgs}
use Rattle.ut_streams.specs.Utilities.{Utility, each_by_itself}
use Rattle.ut_sort.specs.Merging.{merged_texts}
use Rattle.ut_sort.specs.Order.{order_of, sorted_text}

abbrev pub sort : SortArgs → Utility
sort args = record (each_by_itself (sorted_text args) (λ text. false)) {
  aggregate = λ first second. merged_texts (order_of args) args.unique first second;
}
