use Rattle.std.proofs.Common.{sym, ◌∙◌}
use Rattle.sh_pattern.specs.Walks.{not_yet}
use Rattle.sh_pattern.proofs.FitLemmas.{walk_no_byte, walk_refused, walk_on, walk_end, walk_left}
use Rattle.sh_pattern.proofs.matching.next_star.Goals as goal

pub loop-element-init : goal.loop-element-init
loop-element-init c = not_yet

pub returns-in_default-split_first : goal.returns-in_default-split_first
returns-in_default-split_first c = record {
  ends = walk_no_byte c.loop-element.invariant c.in-Some.ensures.cases.0 (λ s. let k = c.is_star.ensures.1 s in cc) c.in_default-split_first.ensures.cases;
}

pub returns-then-not-takes : goal.returns-then-not-takes
returns-then-not-takes c = record {
  ends = walk_refused c.loop-element.invariant c.in-Some.ensures.cases.0 c.in-Some-split_first.ensures.cases.0 (λ s. let k = c.is_star.ensures.1 s in cc) (sym c.takes.ensures ∙ c.if-not-takes.true);
}

pub loop-element-preserved : goal.loop-element-preserved
loop-element-preserved c = walk_on c.loop-element.invariant c.in-Some.ensures.cases.0 c.in-Some-split_first.ensures.cases.0 (sym c.takes.ensures ∙ c.if-not-takes.false)

pub returns-then-is_empty : goal.returns-then-is_empty
returns-then-is_empty c = record { ends = walk_end c.loop-element.invariant c.in_default.ensures.cases (sym c.is_empty.ensures ∙ c.if-is_empty.true) }

pub returns-else-is_empty : goal.returns-else-is_empty
returns-else-is_empty c = record { ends = walk_left c.loop-element.invariant c.in_default.ensures.cases (sym c.is_empty.ensures ∙ c.if-is_empty.false) }
