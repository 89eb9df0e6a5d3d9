use Rattle.std.proofs.Common.{[], rules, subst}
use Rattle.std.proofs.lemmas.Grind.{merely}
use Rattle.ut_regex.specs.Inner.Literals.{Requires}
use Rattle.ut_regex.specs.Tree.{last_tree, tree, with_nodes}
use Rattle.ut_regex.proofs.FilledLemmas.{serves-held}
use Rattle.ut_regex.proofs.LiteralLemmas.{looks-made}
use Rattle.ut_regex.proofs.matcher.compile.Goals as goal

pub invariant_of-result : goal.invariant_of-result
invariant_of-result c = record {
  serves = serves-held c.of.new.machine c.in_ok-cache.cache (c.in_ok-cache.ensures c.of.new.machine);
  made = merely (record {
    fold = c.args.fold;
    whole = c.args.whole;
    re = tree c.args.re.now;
    seeks = search rules;
    made = search rules;
    looks =
        looks-made c.in_ok-literal.literal c.args.fold c.in_ok-required.required (tree c.args.re.now) c.in_ok-literal.ensures
        (subst (λ nodes. Requires c.args.fold (last_tree (with_nodes [] nodes)) c.in_ok-required.required) c.deref-2.ensures.value (c.in_ok-required.ensures c.args.fold));
  });
}
