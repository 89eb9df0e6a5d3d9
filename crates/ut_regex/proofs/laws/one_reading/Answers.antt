use Rattle.ut_regex.proofs.OneReadingLemmas.{one_reading}
use Rattle.ut_regex.proofs.laws.one_reading.Goals as goal

pub returns : goal.returns
returns c = one_reading c.args.basic c.args.text.now c.first_fault.result c.first_fault.ensures.none c.first_fault.ensures.fault
