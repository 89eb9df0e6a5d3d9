use Rattle.std.proofs.Common.{◌≡◌, true, map, take}
use Rattle.serde_json.specs.View.{view}
use Rattle.fl_text.specs.Values.{are_counts, count_value}
use Rattle.fl_text.proofs.printing.counts_value.Given as goal

abbrev pub invariant-loop-count : goal.invariant-loop-count
invariant-loop-count l = record {
  values : map view l.values.items ≡ map count_value (take l.count-index l.counts);
  held : are_counts (take l.count-index l.counts) ≡ true;
}
