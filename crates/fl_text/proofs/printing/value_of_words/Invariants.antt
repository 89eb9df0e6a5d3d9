use Rattle.std.proofs.Common.{◌≡◌, true, map, take}
use Rattle.std.specs.List.{list_all}
use Rattle.ps_lines.specs.Texts.{texts_of}
use Rattle.serde_json.specs.View.{view}
use Rattle.fl_text.specs.Values.{are_bytes, bytes_value}
use Rattle.fl_text.proofs.printing.value_of_words.Given as goal

abbrev pub invariant-loop-word : goal.invariant-loop-word
invariant-loop-word l = record {
  values : map view l.values.items ≡ map bytes_value (texts_of (take l.word-index l.words));
  held : list_all are_bytes (texts_of (take l.word-index l.words)) ≡ true;
}
