use Rattle.std.proofs.Common.{true}
use Rattle.ut_regex.proofs.OneReadingLemmas.{read_only, large_only, first_only}
use Rattle.ut_regex.proofs.reading.read_bre.Goals as goal

pub returns-clause-small : goal.returns-clause-small
returns-clause-small c = read_only true c.args.text.now c.read.result c.read.ensures.read c.read.ensures.fault

pub returns-clause-large : goal.returns-clause-large
returns-clause-large c = large_only true c.args.text.now c.read.result c.read.ensures.read c.read.ensures.fault

pub returns-clause-first : goal.returns-clause-first
returns-clause-first c = first_only true c.args.text.now c.read.result c.read.ensures.read c.read.ensures.fault
