use Rattle.ut_grep.proofs.FaultLemmas.{faulty-here, faulty-later}
use Rattle.ut_grep.proofs.UtilityLemmas.{lines-join}
use Rattle.ut_grep.proofs.patterns.faulty_among.Goals as goal
