use Rattle.fl_core.proofs.RoleLemmas.{same_numbers}
use Rattle.fl_core.proofs.numbered_ends.write_at.Goals as goal

pub returns-clause-numbers : goal.returns-clause-numbers
returns-clause-numbers g c = same_numbers c.args.writers.now c.args.place c.write_all.new.sink c.index-writers-place.result
