use Rattle.fl_core.proofs.RoleLemmas.{same_numbers}
use Rattle.fl_core.proofs.numbered_ends.read_at.Goals as goal

pub returns-clause-numbers : goal.returns-clause-numbers
returns-clause-numbers g c = same_numbers c.args.readers.now c.args.place c.read.new.self c.index-readers-place.result
