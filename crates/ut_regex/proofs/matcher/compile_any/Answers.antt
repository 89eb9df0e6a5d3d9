use Rattle.std.proofs.Common.{rules}
use Rattle.std.proofs.lemmas.Grind.{merely}
use Rattle.ut_regex.specs.Several.{any_of, trees_of}
use Rattle.ut_regex.proofs.FilledLemmas.{serves-held}
use Rattle.ut_regex.proofs.LiteralLemmas.{looks-made}
use Rattle.ut_regex.proofs.matcher.compile_any.Goals as goal

pub invariant_of-result : goal.invariant_of-result
invariant_of-result c = record {
  serves = serves-held c.of.new.machine c.in_ok-cache.cache (c.in_ok-cache.ensures c.of.new.machine);
  made = merely (record {
    fold = c.args.fold;
    whole = c.args.whole;
    re = any_of (trees_of c.args.expressions.now);
    seeks = search rules;
    made = search rules;
    looks =
        looks-made c.in_ok-literal.literal c.args.fold c.in_ok-required.required (any_of (trees_of c.args.expressions.now)) c.in_ok-literal.ensures
        (c.in_ok-required.ensures c.args.fold);
  });
}
