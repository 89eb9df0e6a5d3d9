use Rattle.std.proofs.Common.{◌≡◌, Some, subst, rules}
use Rattle.sh_lex.specs.Reads.{Reads, past}
use Rattle.sh_lex.specs.declared.Construct.TheVariants as construct
use Rattle.sh_lex.specs.declared.Spot.TheVariants as spot
use Rattle.sh_words.proofs.ExtentLemmas.{ends_itself}
use Rattle.sh_words.proofs.substitutions.extent_of.Goals as goal

pub invariant_of-result : goal.invariant_of-result
invariant_of-result c =
    let found = c.in-Commands-default-Some-Between in
    let whole : c.args.opened.inner ≡ construct.Commands found.field-0 (Some found.field-1-0) spot.Between = search rules in
    record {
      ends = ends_itself found.field-0 found.field-1-0 c.saturating_sub-count.result c.args.opened.text.now c.args.behind.now
          c.saturating_sub-count.ensures (subst (λ part. Reads part c.args.opened.text.now (past c.args.behind.now)) whole c.requires);
    }
