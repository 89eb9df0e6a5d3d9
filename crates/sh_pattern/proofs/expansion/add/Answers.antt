use Rattle.std.proofs.Common.{List, ℕ, ◌++◌, ap, ◌∙◌}
use Rattle.sh_pattern.proofs.ExpansionLemmas.{adds}
use Rattle.sh_pattern.proofs.expansion.add.Goals as goal

pub returns : goal.returns
returns c = record {
  added = adds c.args.found.now.items _ c.in_ok-push.ensures.items
      (c.in_ok-text.ensures ∙ ap (λ (before : List ℕ). before ++ (c.args.name.now ++ c.args.ending.now)) c.as_slice.ensures.value);
}
