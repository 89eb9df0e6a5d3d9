use Rattle.ut_test.specs.Fields.{is_in}
use Rattle.ut_test.proofs.LineLaws.{trimmed}
use Rattle.ut_test.proofs.laws.one_name_gets_the_line.Goals as goal

pub returns : goal.returns
returns c = λ ifs line. trimmed (is_in ifs) line
