use Rattle.std.proofs.Common.{◌≡◌, drop}
use Rattle.serde_json.specs.View.{items_view}
use Rattle.fl_text.specs.Inner.Drafts.{bytes_of, each_of}
use Rattle.fl_text.proofs.ReadLemmas.{before}
use Rattle.fl_text.proofs.values.read_each_word.Given as goal

abbrev pub invariant-loop-value : goal.invariant-loop-value
invariant-loop-value l =
    each_of bytes_of (items_view l.values) ≡ before l.words (each_of bytes_of (items_view (drop l.value-index l.values)))
