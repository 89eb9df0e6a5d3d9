use Rattle.std.proofs.Common.{◌≡◌, ◌++◌, ap, sym, ◌∙◌, get_or, take, encode_utf8, encode_utf8_all, arith, rules}
use Rattle.std.proofs.lemmas.Grind.{common_steps}
use Rattle.serde_json.specs.Data.{string}
use Rattle.fl_text.proofs.PrintLemmas.{encodes-next, view-String}
use Rattle.fl_text.proofs.printing.bytes_value.Goals as goal

pub loop-byte-preserved : goal.loop-byte-preserved
loop-byte-preserved c = record {
  text = c.in_ok-push.ensures.bytes
      ∙ (ap (λ it. it ++ encode_utf8 (get_or c.args.bytes.now c.loop-byte.byte-index 0)) c.loop-byte.invariant.text ∙ sym (encodes-next c.args.bytes.now c.loop-byte.byte-index 0 (search rules)));
  held = grind (arith, common_steps);
}

pub returns-clause-value : goal.returns-clause-value
returns-clause-value c =
    let all : take c.loop-byte.byte-index c.args.bytes.now ≡ c.args.bytes.now = grind (arith, common_steps) in
    view-String c.loop-byte.text ∙ ap string (c.loop-byte.invariant.text ∙ ap encode_utf8_all all)
