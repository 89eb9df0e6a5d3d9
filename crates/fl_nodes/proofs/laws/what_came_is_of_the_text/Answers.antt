use Rattle.fl_nodes.proofs.SourceLemmas.{source-completes, source-whole}
use Rattle.fl_nodes.proofs.laws.what_came_is_of_the_text.Goals as goal

pub returns-clause-completes : goal.returns-clause-completes
returns-clause-completes c = source-completes

pub returns-clause-whole : goal.returns-clause-whole
returns-clause-whole c = source-whole
