use Rattle.std.proofs.Common.{◌≡◌, true, take, string_bytes}
use Rattle.std.specs.Str.{encode_utf8_all}
use Rattle.fl_text.specs.Values.{are_bytes}
use Rattle.fl_text.proofs.printing.bytes_value.Given as goal

abbrev pub invariant-loop-byte : goal.invariant-loop-byte
invariant-loop-byte l = record {
  text : string_bytes l.text ≡ encode_utf8_all (take l.byte-index l.bytes);
  held : are_bytes (take l.byte-index l.bytes) ≡ true;
}
