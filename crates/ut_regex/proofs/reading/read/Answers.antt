use Rattle.ut_regex.proofs.ReadingLemmas.{faults_refuse, fails_refuse}
use Rattle.ut_regex.proofs.reading.read.Goals as goal

pub returns-in-Some-clause-fault : goal.returns-in-Some-clause-fault
returns-in-Some-clause-fault c = faults_refuse c.args.basic c.args.text.now c.in-Some.fault c.in-Some.ensures.fault

pub returns-in-Err-clause-fault : goal.returns-in-Err-clause-fault
returns-in-Err-clause-fault c = fails_refuse c.args.basic c.args.text.now c.in-Err.fault c.in_default.ensures.none c.in-Err.ensures.fault
