use Rattle.ps_world.proofs.WritingLemmas.{none_within, within-create, within-filled, within_none}
use Rattle.ps_world.proofs.laws.writers_are_out_at_their_paths.Goals as goal

pub returns-clause-none : goal.returns-clause-none
returns-clause-none c files = (within_none files, none_within files)

pub returns-clause-create : goal.returns-clause-create
returns-clause-create c files paths path outs = within-create files paths path outs

pub returns-clause-filled : goal.returns-clause-filled
returns-clause-filled c files paths path bytes outs = within-filled files paths path bytes outs
