use Rattle.ut_grep.proofs.PatternLemmas.{pattern-had}
use Rattle.ut_grep.proofs.laws.a_pattern_is_found_where_it_is_had.Goals as goal

pub returns : goal.returns
returns c = pattern-had
