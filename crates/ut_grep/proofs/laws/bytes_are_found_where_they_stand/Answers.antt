use Rattle.ut_grep.proofs.BytesLemmas.{bytes-stand}
use Rattle.ut_grep.proofs.laws.bytes_are_found_where_they_stand.Goals as goal

pub returns : goal.returns
returns c = bytes-stand
