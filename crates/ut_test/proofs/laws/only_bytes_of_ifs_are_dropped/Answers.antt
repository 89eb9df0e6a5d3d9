use Rattle.ut_test.specs.Fields.{is_in}
use Rattle.ut_test.proofs.LineLaws.{kept-fields_by}
use Rattle.ut_test.proofs.laws.only_bytes_of_ifs_are_dropped.Goals as goal

pub returns : goal.returns
returns c = λ ifs line names. kept-fields_by (is_in ifs) line names
