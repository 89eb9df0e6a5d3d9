use Rattle.sh_pattern.proofs.NamingLemmas.{some_expansion}
use Rattle.sh_pattern.proofs.laws.a_text_expands_to_some_names.Goals as goal

pub returns : goal.returns
returns c = some_expansion
