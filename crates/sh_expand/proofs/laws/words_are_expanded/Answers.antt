use Rattle.sh_expand.proofs.OutcomeLemmas.{all_expansions, are_expansions}
use Rattle.sh_expand.proofs.laws.words_are_expanded.Goals as goal

pub returns : goal.returns
returns c = record { expansions = all_expansions; are = are_expansions }
