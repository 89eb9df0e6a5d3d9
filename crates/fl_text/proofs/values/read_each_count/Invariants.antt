use Rattle.std.proofs.Common.{◌≡◌, drop}
use Rattle.serde_json.specs.View.{items_view}
use Rattle.fl_text.specs.Inner.Drafts.{count_of, each_of}
use Rattle.fl_text.proofs.ReadLemmas.{before}
use Rattle.fl_text.proofs.values.read_each_count.Given as goal

abbrev pub invariant-loop-value : goal.invariant-loop-value
invariant-loop-value l =
    each_of count_of (items_view l.values) ≡ before l.counts.items (each_of count_of (items_view (drop l.value-index l.values)))
