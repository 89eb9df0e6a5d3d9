use Rattle.sh_pattern.proofs.ExpansionLemmas.{each_once}
use Rattle.sh_pattern.proofs.expansion.sorted_texts.Goals as goal

pub returns-clause-sorted : goal.returns-clause-sorted
returns-clause-sorted c = each_once c.sort.new.self.items c.dedup.new.self.items c.in_ok-sort.ensures.sorted c.dedup.ensures.filtered
