use Rattle.ut_regex.proofs.LaneLemmas.{none-set, counted-within, counted-zero}
use Rattle.ut_regex.proofs.lanes.zero_lanes.Goals as goal

pub returns-then-bits-eq0-clause-zero : goal.returns-then-bits-eq0-clause-zero
returns-then-bits-eq0-clause-zero c = none-set c.args.lanes c.fits-lanes.0 c.if-bits-eq0.true

pub returns-clause-within : goal.returns-clause-within
returns-clause-within c = counted-within c.args.lanes c.fits-lanes.0 c.if-bits-eq0.false

pub returns-clause-zero : goal.returns-clause-zero
returns-clause-zero c = counted-zero c.args.lanes c.fits-lanes.0 c.if-bits-eq0.false
