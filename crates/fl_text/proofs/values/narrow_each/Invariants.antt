use Rattle.std.proofs.Common.{◌≡◌, drop, take}
use Rattle.fl_text.specs.Values.{are_bytes}
use Rattle.fl_text.proofs.values.narrow_each.Given as goal

abbrev pub invariant-loop-character : goal.invariant-loop-character
invariant-loop-character l = record {
  taken : l.bytes.items ≡ take l.character-index l.characters;
  left : are_bytes l.characters ≡ are_bytes (drop l.character-index l.characters);
}
